pub mod Passing
pub mod CycleExists
pub mod ReportExists
pub mod DeadExtend
pub mod Texts
pub mod OneReport
pub mod CountsAddUp
pub mod DeadTasks
