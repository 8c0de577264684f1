-- What a reader of the repository has to believe.
pub mod ClockLines
-- How the program does it: what the checker keeps, and what it shows of the unfolding.
pub mod inside
-- Words of contracts further down, which no promise of a program needs.
pub mod calls
