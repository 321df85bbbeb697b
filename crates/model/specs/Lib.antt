pub mod Calls
pub mod Histories
pub mod Trees
pub mod Lots
pub mod Bench
pub mod Closed
pub mod Laws
pub mod Promises
