pub mod CommitForm
pub mod CommitFitting
pub mod CommitPromises
pub mod Commits
pub mod Counting
