pub mod Graph
pub mod Cycle
