mod FirstRecord
mod Summed
