pub mod Fitting
pub mod WalkEnds
pub mod Grouped
pub mod GroupTexts
pub mod Numbered
pub mod Searches
