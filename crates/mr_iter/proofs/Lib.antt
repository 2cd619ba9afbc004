mod FirstDifference
mod ChildLaws
mod Steps
mod Ranks
mod SeekLaws
mod MergeSteps
mod Runs
mod Steady
mod Spent
mod Newest
mod Placing
pub mod Newer
mod Views
mod Walking
mod Seeking
pub mod Bounds
