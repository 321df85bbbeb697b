pub mod Parts
pub mod Feeds
pub mod Blocks
pub mod Joins
pub mod Pairs
pub mod Together
pub mod Sponges
