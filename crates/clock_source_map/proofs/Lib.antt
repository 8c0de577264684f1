-- Why the functions do what their contracts say.
pub mod NotedInTurn
pub mod Noting
pub mod NotingOps
pub mod Keywords
pub mod Walked
pub mod MovesOf
pub mod NotedMoves
pub mod AllOrigins
pub mod AwaitOrigins
pub mod OffsetsMany
