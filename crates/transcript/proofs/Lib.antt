pub mod Going
pub mod Reading
pub mod Lots
pub mod Commands
pub mod Promised
