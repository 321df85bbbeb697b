pub mod Chains
pub mod Sites
pub mod Pairs
