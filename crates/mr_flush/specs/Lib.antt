pub mod Adding
pub mod Flushed
