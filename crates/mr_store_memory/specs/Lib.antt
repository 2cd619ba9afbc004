pub mod Held
pub mod Readied
pub mod ByName
pub mod Knows
