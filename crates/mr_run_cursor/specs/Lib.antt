pub mod Pinned
pub mod Found
pub mod Laws
