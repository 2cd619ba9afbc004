pub mod Slots
pub mod Fronted
pub mod Chunks
pub mod Tables
pub mod Props
pub mod Standing
pub mod Given
