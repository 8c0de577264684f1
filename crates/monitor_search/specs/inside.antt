pub mod Cascades
pub mod Joining
pub mod Keeping
pub mod LeastPhases
pub mod Leaving
pub mod Numbers
pub mod Partings
pub mod Waits
