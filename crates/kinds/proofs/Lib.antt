pub mod Arrays
pub mod Drills
pub mod FirstBad
pub mod Causes
