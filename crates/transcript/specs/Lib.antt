pub mod Laws
pub mod Transcripts
pub mod Commands
pub mod Lots
pub mod Promised
