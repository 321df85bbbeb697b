pub mod Ended
pub mod Numbers
