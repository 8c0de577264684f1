pub mod DetectRuns
pub mod SiteRuns
