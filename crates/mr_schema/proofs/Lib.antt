pub mod Fronts
pub mod Parts
pub mod ColumnLaws
pub mod DefinitionLaws
pub mod CheckedColumns
pub mod CheckedDefinitions
pub mod RowsFit
pub mod FewRead
