pub mod Worlds
pub mod Stands
pub mod Moves
pub mod Views
pub mod GivenPlaces
pub mod HighestPhases
pub mod Awaiting
pub mod Tables
