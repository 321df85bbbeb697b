pub mod Answers
pub mod Turns
