pub mod Fields
pub mod Indexes
pub mod Lists
mod Worked
pub mod Written
