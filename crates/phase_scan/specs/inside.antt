pub mod Cells
pub mod Phases
pub mod Behind
pub mod Filling
pub mod Supposing
