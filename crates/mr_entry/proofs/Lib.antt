pub mod Copying
pub mod EntryTrip
pub mod EntryTakes
pub mod HeldEntries
pub mod PrimaryKeys
pub mod RowKeys
