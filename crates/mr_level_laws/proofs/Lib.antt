pub mod Adding
pub mod Apart
