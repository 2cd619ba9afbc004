pub mod Known
pub mod Changed
pub mod Batches
pub mod Rooms
