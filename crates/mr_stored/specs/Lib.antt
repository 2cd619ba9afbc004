pub mod Said
pub mod Begun
pub mod Names
pub mod Lists
pub mod Offences
