pub mod RunQueues
pub mod StepKinds
