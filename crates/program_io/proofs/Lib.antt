pub mod OnePlan
pub mod EachText
pub mod EndsFinished
pub mod Inputs
pub mod SomeBelow
pub mod LegibleWritten
