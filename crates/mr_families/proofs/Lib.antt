pub mod Naming
mod Numbering
mod Searched
mod Telling
mod Batched
mod Learns
mod Needing
mod ByPlace
