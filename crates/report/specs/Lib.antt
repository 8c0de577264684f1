pub mod Words
pub mod Live
pub mod Refusals
pub mod Standings
pub mod Counts
pub mod Lines
pub mod Reports
pub mod NamedDead
-- How the program does it: private contracts alone cite these.
pub mod inside
-- Words of contracts further down, which no promise of a program needs.
pub mod calls
