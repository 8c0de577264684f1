pub mod RunTraces
pub mod EndedTraces
