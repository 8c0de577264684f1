pub mod DeadPlaces
pub mod Verdicts
pub mod Passes
pub mod OneCycle
