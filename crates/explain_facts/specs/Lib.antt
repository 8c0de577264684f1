pub mod AwaitWords
pub mod Names
pub mod PhaserUses
pub mod ImmediateAwaits
pub mod Accounts
pub mod RunStates
-- How the program does it: private contracts alone cite these.
pub mod inside
-- Words of contracts further down, which no promise of a program needs.
pub mod calls
