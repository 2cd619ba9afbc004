pub mod Naming
pub mod Converting
