pub mod Cuts
pub mod Running
