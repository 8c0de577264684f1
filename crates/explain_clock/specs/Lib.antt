-- What a reader of the repository has to believe.
pub mod ClockFacts
pub mod ClockWords
pub mod ActivityLists
pub mod ClockKeepers
pub mod ClockCircles
pub mod ClockMends
pub mod ClockNotes
pub mod ClockExplanations
pub mod ClockStands
pub mod ClockHints
pub mod ClockRefusals
-- How the program does it: private contracts alone cite these.
pub mod inside
-- Words of contracts further down, which no promise of a program needs.
pub mod calls
