pub mod Lists
pub mod Kept
pub mod Commits
pub mod Claims
