pub mod Turning
pub mod Holding
pub mod Keys
mod Named
mod Others
