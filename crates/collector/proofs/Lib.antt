pub mod Fresh
pub mod Verdicts
pub mod Sending
