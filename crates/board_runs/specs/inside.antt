pub mod Tasks
pub mod Attempts
pub mod Rounds
pub mod TasksOf
pub mod Workers
