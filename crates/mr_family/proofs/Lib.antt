pub mod Gathering
pub mod Following
pub mod Wholes
pub mod Viewing
pub mod Sound
pub mod Flushes
