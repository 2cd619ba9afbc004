mod Numbers
mod Entries
mod EntryLists
mod BlockBytes
mod Fields
mod Blocks
mod Whole
