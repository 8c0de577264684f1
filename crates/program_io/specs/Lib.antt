-- What a reader of the repository has to believe.
pub mod Texts
pub mod Passages
pub mod Programs
pub mod Legible
-- How the program does it.
pub mod inside
-- Words of contracts further down, which no promise of a program needs.
pub mod calls
