mod Orders
mod Putting
mod Scanning
mod InOrder
mod Carrying
mod Finding
mod Viewing
