-- What a reader of the repository has to believe.
pub mod QuotedWords
pub mod CaretLines
pub mod Wanted
pub mod Stands
pub mod SyntaxSentences
pub mod Hints
pub mod SyntaxRefusals
pub mod LengthRefusals
-- How the program does it: private contracts alone cite these.
pub mod inside
-- Words of contracts further down, which no promise of a program needs.
pub mod calls
