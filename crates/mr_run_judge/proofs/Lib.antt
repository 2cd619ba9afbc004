pub mod Later
pub mod Listed
pub mod Meetings
pub mod OneOrder
pub mod Placing
pub mod Sizes
pub mod Stepping
