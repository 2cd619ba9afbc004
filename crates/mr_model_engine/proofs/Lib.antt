pub mod Answering
pub mod Current
pub mod Entries
pub mod FewChecked
pub mod FewTables
