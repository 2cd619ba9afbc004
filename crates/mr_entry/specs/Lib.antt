pub mod Entry
pub mod Answers
pub mod Promises
pub mod Held
pub mod Primary
