mod Steps
pub mod Kept
