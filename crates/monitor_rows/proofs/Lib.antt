pub mod Alike
pub mod Groups
pub mod LedRows
pub mod Turning
pub mod LeastPhases
pub mod OneMore
