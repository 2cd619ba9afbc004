pub mod Ascent
pub mod Left
