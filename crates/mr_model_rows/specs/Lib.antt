pub mod Keyed
pub mod Naming
pub mod Searching
