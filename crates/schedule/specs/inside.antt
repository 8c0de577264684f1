pub mod Following
pub mod OpenPasses
pub mod KeptReplays
pub mod Numbers
pub mod StepLines
