pub mod Field
pub mod Lanes
pub mod Powers
pub mod Primes
