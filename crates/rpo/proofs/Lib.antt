pub mod Sums
pub mod Inverses
pub mod Rounds
pub mod Totals
pub mod Steps
