mod Blocks
mod Drafting
mod Elsewhere
mod Holding
mod Results
