pub mod Answers
pub mod Denials
pub mod Words
pub mod Kinds
pub mod Permuting
