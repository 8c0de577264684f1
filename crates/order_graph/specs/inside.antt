pub mod Bits
pub mod Gathered
pub mod Rows
pub mod Distances
pub mod Mending
pub mod FoundBelow
pub mod Steps
