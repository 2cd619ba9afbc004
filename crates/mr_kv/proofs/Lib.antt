pub mod Holding
pub mod Moments
pub mod Cached
pub mod Ready
pub mod Outcomes
