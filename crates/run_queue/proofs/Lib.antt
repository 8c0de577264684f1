pub mod Forked
pub mod Waiters
pub mod Waking
pub mod Moved
pub mod Queued
