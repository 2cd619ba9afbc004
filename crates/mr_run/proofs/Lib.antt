pub mod Capped
pub mod Parts
pub mod Cut
pub mod Traces
pub mod Served
pub mod Nexts
pub mod Texts
pub mod Feeding
pub mod Taking
pub mod Whole
mod Readable
pub mod Concluding
pub mod Wording
