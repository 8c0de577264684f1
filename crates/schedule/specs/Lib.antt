pub mod Lines
pub mod Split
pub mod Passes
pub mod Replays
pub mod Replaying
pub mod Texts
pub mod Records
pub mod inside
pub mod Laws
-- Words of contracts further down, which no promise of a program needs.
pub mod calls
