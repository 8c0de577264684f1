-- What a reader of the repository has to believe.
pub mod Requests
pub mod Shortened
pub mod ShownShort
pub mod Explained
pub mod Stepped
pub mod Avoided
pub mod Refused
pub mod ClockExplained
pub mod ClockStepped
pub mod Languages
pub mod Outputs
-- How the program does it.
pub mod inside
-- Words of contracts further down, which no promise of a program needs.
pub mod calls
