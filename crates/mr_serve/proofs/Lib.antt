pub mod Events
pub mod Replied
pub mod Early
pub mod Running
pub mod Stepping
pub mod FewRead
