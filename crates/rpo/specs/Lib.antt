pub mod Matrix
pub mod Permutation
pub mod Rows
pub mod Undo
pub mod FirstRow
