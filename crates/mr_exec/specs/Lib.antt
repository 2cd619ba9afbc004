pub mod Sources
pub mod Lists
pub mod Gathering
pub mod Holding
