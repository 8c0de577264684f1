pub mod Decisions
pub mod OnBoard
pub mod Kept
