pub mod AvoidedRuns
pub mod Laws
