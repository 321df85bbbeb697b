pub mod Places
pub mod Levels
pub mod Growth
pub mod Paths
