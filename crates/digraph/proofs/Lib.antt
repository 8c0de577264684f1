pub mod SearchLemmas
pub mod SearchSteps
pub mod RowLemmas
pub mod LeastSuccessors
pub mod AddedEdges
pub mod WalksAlong
pub mod NextTables
