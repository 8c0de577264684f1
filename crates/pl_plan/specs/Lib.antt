-- What a reader of the repository has to believe.
pub mod Limits
pub mod FoldedOps
pub mod Unfolding
pub mod Tests
pub mod Stages
pub mod Forks
-- How the program does it: flat steps, what the checker keeps, what it shows of the unfolding.
pub mod inside
-- Words of contracts further down, which no promise of a program needs.
pub mod calls
