pub mod OneTable
pub mod Added
pub mod LastDefined
pub mod SinceOpening
pub mod Weighing
