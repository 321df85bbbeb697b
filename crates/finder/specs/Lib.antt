pub mod Findings
pub mod Law
