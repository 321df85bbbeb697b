pub mod Chains
pub mod Codes
pub mod Openings
pub mod Scripts
