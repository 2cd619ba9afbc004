pub mod Calls
mod Files
mod Fills
mod Leads
mod Stories
