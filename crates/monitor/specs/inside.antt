pub mod Listening
pub mod Ending
