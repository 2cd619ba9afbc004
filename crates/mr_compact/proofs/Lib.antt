mod Choice
mod Keys
mod Keeping
mod Cutting
mod Worked
mod Outside
mod Joining
mod Carrying
