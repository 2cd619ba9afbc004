pub mod SameWorld
pub mod Named
