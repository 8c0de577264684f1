pub mod Merging
pub mod Appending
