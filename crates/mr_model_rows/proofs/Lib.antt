pub mod Ascent
pub mod Moved
pub mod Named
pub mod Searching
pub mod Weighed
