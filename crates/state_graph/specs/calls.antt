pub mod StateEdges
pub mod BoundedEnds
