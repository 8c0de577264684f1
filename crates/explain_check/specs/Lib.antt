-- What a reader of the repository has to believe: what is known of the fault.
pub mod Deeds
pub mod Turns
pub mod Scenes
-- And the lines that tell it.
pub mod StatementPlaces
pub mod NameWords
pub mod MatterWords
pub mod MatterNotes
pub mod Whereabouts
pub mod CheckRefusals
-- How the program finds it: what it keeps, and what that tells of the stages so far.
pub mod inside
-- Words of contracts further down, which no promise of a program needs.
pub mod calls
