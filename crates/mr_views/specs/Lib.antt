pub mod Views
pub mod HiddenNumbers
