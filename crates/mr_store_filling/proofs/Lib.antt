pub mod Chained
pub mod Holding
