pub mod Claim
pub mod Promises
