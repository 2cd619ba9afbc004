pub mod Alike
pub mod Blank
pub mod Comparing
pub mod Digits
pub mod Kept
pub mod Total
