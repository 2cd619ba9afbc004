mod Begun
pub mod Bytes
mod Costs
mod Crash
mod Find
mod Giving
pub mod Laws
mod Repair
mod Stage
mod Stands
mod Stepping
pub mod Walk
