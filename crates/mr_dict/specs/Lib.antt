pub mod Dictionary
pub mod Lookups
pub mod Loading
pub mod Given
pub mod Promises
