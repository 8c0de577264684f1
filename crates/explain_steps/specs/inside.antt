pub mod SoFar
pub mod LeastEnabled
