pub mod Added
pub mod Logged
pub mod Reading
pub mod Sequences
pub mod Standing
