pub mod Fronting
pub mod Holding
