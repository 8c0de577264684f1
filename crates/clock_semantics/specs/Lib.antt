-- What a reader of the repository has to believe.
pub mod Moves
pub mod Unfolding
-- Words of contracts further down, which no promise of a program needs.
pub mod calls
