pub mod Choices
pub mod StandingLists
pub mod Fronts
pub mod TakenAway
pub mod RemainingDead
pub mod Deciding
pub mod DeadOrNot
mod AwaitedEvents
mod EventSearches
mod Beginnings
mod LaterEvents
mod CountedWaits
