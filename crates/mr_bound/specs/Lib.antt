pub mod BoundRefusals
pub mod BoundSelects
pub mod BoundUpdates
pub mod Stamps
