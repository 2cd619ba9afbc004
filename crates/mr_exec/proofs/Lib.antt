mod OneOrder
mod Kept
mod Twice
mod Behind
mod Replying
mod Finding
mod Standing
