pub mod Runs
pub mod Blocks
pub mod Parts
pub mod Given
