-- What is known, and how the tasks stand.
pub mod Facts
pub mod Impeders
pub mod Nexts
-- The words.
pub mod Names
pub mod TaskLists
pub mod Places
pub mod Sayings
-- What is said, each thing once.
pub mod Groups
-- Words of contracts further down, which no promise of a program needs.
pub mod calls
