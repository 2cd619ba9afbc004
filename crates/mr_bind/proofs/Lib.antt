mod Named
mod Converted
