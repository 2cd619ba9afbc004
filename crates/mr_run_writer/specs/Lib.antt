pub mod Buffers
pub mod Cuts
pub mod Drafts
pub mod Outs
