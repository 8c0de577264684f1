-- What a reader of the repository has to believe.
pub mod ClockOrigins
pub mod ClockOffsets
pub mod ClockOps
-- How the program does it: private contracts alone cite these.
pub mod inside
-- Words of contracts further down, which no promise of a program needs.
pub mod calls
