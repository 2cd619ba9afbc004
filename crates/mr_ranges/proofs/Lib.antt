pub mod Order
pub mod Common
pub mod Crossing
mod Sweeping
