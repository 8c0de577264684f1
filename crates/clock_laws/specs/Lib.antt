-- What a reader of the repository has to believe.
pub mod TextMachine
-- What is proved of it, and of the unfolding.
pub mod TextNumbers
pub mod TextLaws
-- Words of contracts further down, which no promise of a program needs.
pub mod calls
