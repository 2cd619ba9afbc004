pub mod Durations
pub mod Filters
pub mod Kept
