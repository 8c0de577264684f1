pub mod Shapes
pub mod OpenBraces
pub mod Walking
