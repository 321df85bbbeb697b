pub mod Numbers
pub mod Verbs
pub mod Commands
pub mod Orders
pub mod Faults
pub mod Phases
