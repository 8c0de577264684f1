pub mod Rows
pub mod Names
pub mod Listing
pub mod Comings
pub mod ShowsUnfolding
pub mod Simulates
pub mod ActivitiesDone
pub mod ClockCodes
