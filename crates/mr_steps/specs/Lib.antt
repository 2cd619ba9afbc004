pub mod Adding
pub mod Defining
pub mod Since
pub mod Views
