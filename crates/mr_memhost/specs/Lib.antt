pub mod Held
pub mod Story
pub mod Files
pub mod Told
pub mod Host
pub mod Supplies
pub mod Crash
