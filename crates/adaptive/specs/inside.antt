pub mod Standings
pub mod Waits
pub mod Remaining
pub mod ByGraph
