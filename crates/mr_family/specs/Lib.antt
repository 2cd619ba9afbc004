pub mod Family
pub mod Parts
