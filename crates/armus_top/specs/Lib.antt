pub mod Texts
pub mod DeadStatus
pub mod Clocks
pub mod Replays
pub mod Runs
pub mod ClockRuns
pub mod Avoids
pub mod Records
pub mod Generated
pub mod Commands
pub mod Headline
pub mod Replayable
pub mod Inputs
pub mod inside
-- Words of contracts further down, which no promise of a program needs.
pub mod calls
