pub mod SerialRuns
pub mod SteppedRuns
pub mod Laws
pub mod Known
pub mod SteppedClocks
pub mod ClockLaws
