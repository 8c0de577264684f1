pub mod RunEnds
pub mod Laws
