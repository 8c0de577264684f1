pub mod ComingTask
pub mod FollowedEvent
pub mod GrowingPairs
pub mod StatePlaces
pub mod StateTasks
pub mod WholePairs
pub mod Ends
