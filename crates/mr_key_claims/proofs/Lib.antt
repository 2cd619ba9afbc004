pub mod Forms
pub mod Claims
pub mod Shares
pub mod Last
