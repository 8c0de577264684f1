pub mod ReadyTasks
pub mod WaitQueues
pub mod Waking
