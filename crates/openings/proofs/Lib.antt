pub mod Digests
pub mod Steps
pub mod Tests
pub mod Admitted
pub mod Parts
pub mod Causes
