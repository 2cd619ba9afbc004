mod Opened
mod Ready
mod Replaying
mod Sequenced
mod Stops
