pub mod Folds
pub mod Own
pub mod Visible
pub mod Above
