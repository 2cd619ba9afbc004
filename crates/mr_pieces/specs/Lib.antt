pub mod Order
pub mod Pieces
pub mod Reading
pub mod Unpack
pub mod Promises
pub mod Lying
pub mod UnpackReading
