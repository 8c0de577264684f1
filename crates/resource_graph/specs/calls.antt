pub mod ResourceEdges
