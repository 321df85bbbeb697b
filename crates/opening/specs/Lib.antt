pub mod Replies
pub mod Texts
