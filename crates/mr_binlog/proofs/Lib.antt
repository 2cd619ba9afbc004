pub mod CommitLaws
mod Stopping
mod Holding
mod KeysFit
mod Numbers
mod Worked
pub mod FewCommits
