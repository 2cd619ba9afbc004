pub mod Fields
pub mod Block
pub mod Given
pub mod Built
pub mod Held
