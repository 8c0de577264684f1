pub mod WaitEdges
