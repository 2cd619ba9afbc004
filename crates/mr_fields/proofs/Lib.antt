pub mod Lists
pub mod Reading
pub mod FieldLaws
pub mod ValueLaws
pub mod RowLaws
