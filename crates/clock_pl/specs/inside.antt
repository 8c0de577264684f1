pub mod ClockChecker
pub mod ClockCheckerSteps
