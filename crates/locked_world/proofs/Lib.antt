pub mod Ahead
pub mod Journals
pub mod Logging
