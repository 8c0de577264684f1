-- Where a run has ended.
pub mod RunEnds
-- The verdict.
pub mod Circles
pub mod Verdicts
pub mod VerdictWords
-- The paragraphs.
pub mod ImpederLines
pub mod Paragraphs
-- What to mend.
pub mod Hints
pub mod Notes
-- The whole.
pub mod Explanations
-- What is proved of it.
pub mod Laws
-- How the program does it: private contracts alone cite these.
pub mod inside
-- Words of contracts further down, which no promise of a program needs.
pub mod calls
