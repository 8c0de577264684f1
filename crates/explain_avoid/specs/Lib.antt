-- What a reader of the repository has to believe.
pub mod Released
pub mod RefusalWords
pub mod Refusals
pub mod AvoidedWords
pub mod AvoidedExplanations
-- How the program does it: private contracts alone cite these.
pub mod inside
-- Words of contracts further down, which no promise of a program needs.
pub mod calls
