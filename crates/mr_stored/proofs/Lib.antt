pub mod Written
pub mod Naming
pub mod Batching
pub mod Unnamed
pub mod Saying
pub mod Kept
