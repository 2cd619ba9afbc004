pub mod Fields
pub mod Rows
pub mod Given
pub mod Fitting
