pub mod Stages
pub mod Shown
pub mod Runs
