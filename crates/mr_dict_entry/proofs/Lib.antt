pub mod EntryLaws
mod TableLaws
mod Trying
mod Worked
mod Smallness
mod SmallNumbers
