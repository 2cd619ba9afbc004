pub mod PrimaryOrder
pub mod Distinct
pub mod CheckedDefinitions
pub mod KeyBytes
pub mod KeySizes
pub mod EntrySizes
