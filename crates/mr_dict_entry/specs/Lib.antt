pub mod Entries
pub mod EntryFitting
pub mod Given
