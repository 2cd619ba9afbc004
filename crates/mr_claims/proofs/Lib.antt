mod Keys
mod Counts
mod Judging
mod Forgetting
mod Rising
mod Holding
mod Keeping
