pub mod Levels
pub mod Passes
pub mod Kept
pub mod Merges
pub mod Writing
