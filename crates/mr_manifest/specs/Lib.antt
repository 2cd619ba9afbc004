pub mod Fields
pub mod Edits
pub mod Given
pub mod Live
pub mod Rule
pub mod Manifest
