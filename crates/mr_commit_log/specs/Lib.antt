pub mod LogCommits
pub mod Folder
pub mod Emitting
pub mod Room
pub mod Appending
pub mod Causes
pub mod Opening
