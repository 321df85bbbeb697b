pub mod Searches
pub mod Levels
pub mod Finds
pub mod Admitted
pub mod Shows
