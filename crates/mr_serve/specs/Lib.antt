pub mod Replied
pub mod Settled
pub mod Serving
