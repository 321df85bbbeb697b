pub mod Bytes
pub mod Cuts
