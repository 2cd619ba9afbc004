pub mod Said
pub mod Widths
pub mod DefinitionForm
pub mod DefinitionFitting
pub mod Few
