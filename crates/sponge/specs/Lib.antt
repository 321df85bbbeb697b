pub mod Digests
pub mod Streams
pub mod Calls
