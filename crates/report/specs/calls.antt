pub mod Counts
pub mod Reports
pub mod Outlines
pub mod NamedDead
