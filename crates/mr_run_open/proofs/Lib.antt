pub mod Sizes
pub mod Searching
pub mod Indexing
pub mod Stopping
pub mod FileParts
pub mod Ranges
