pub mod Dressed
pub mod Absent
pub mod Tidy
pub mod Openings
pub mod Again
pub mod Naming
