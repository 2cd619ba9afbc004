pub mod Store
pub mod Batch
