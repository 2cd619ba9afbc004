pub mod Levels
pub mod Opened
pub mod Looks
pub mod Spans
