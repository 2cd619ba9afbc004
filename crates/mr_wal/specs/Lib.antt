pub mod Fields
pub mod Operations
pub mod EngineLog
pub mod Given
pub mod Fitting
pub mod Distinct
