pub mod Colliding
pub mod Leaving
pub mod Numbers
pub mod Parking
pub mod Staying
