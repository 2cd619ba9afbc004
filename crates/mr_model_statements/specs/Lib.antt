pub mod Left
pub mod Opening
