pub mod Passages
pub mod ExitNumbers
pub mod Writing
