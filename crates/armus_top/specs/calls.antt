pub mod Meanings
pub mod Replayable
pub mod Inputs
