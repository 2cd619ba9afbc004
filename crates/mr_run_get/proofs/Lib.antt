pub mod Between
pub mod Cutting
pub mod Finding
pub mod Fronts
pub mod Gapless
pub mod Joining
pub mod Spans
