pub mod BoardRuns
pub mod LiveReporters
pub mod DetectRounds
pub mod Watching
pub mod Rests
pub mod SiteRounds
pub mod Pooled
