mod Kept
mod Chaining
mod Reading
mod Moves
mod Searching
mod Seeks
mod Nexts
