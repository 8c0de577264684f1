pub mod Lent
pub mod Turns
pub mod LeastPhases
