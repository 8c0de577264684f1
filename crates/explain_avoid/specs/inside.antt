pub mod Freed
pub mod SoFar
