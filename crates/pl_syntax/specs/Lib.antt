-- What a reader of the repository has to believe.
pub mod Tree
pub mod Words
pub mod Tokens
pub mod Grammar
pub mod Printed
pub mod StatementOffsets
pub mod BodyEnds
-- How the program does it: private contracts alone cite these.
pub mod inside
-- Words of contracts further down, which no promise of a program needs.
pub mod calls
