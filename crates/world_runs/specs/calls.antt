pub mod PlainRuns
pub mod EndWorlds
pub mod RecordedRuns
pub mod NextTurns
pub mod AvoidedRuns
