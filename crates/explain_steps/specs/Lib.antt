-- What a reader of the repository has to believe.
pub mod SerialRuns
pub mod StepWords
pub mod ShownSteps
-- The same of a clock text.
pub mod OpFacts
pub mod ClockStepWords
pub mod ShownClockSteps
-- How the program does it: private contracts alone cite these.
pub mod inside
-- Words of contracts further down, which no promise of a program needs.
pub mod calls
