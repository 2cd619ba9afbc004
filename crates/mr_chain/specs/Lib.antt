pub mod Chains
pub mod ByFiles
pub mod ChainLaws
