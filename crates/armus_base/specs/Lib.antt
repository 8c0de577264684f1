pub mod Limits
pub mod Pieces
pub mod Offsets
pub mod Numbers
pub mod Plans
pub mod States
pub mod Runs
pub mod Places
pub mod CheckedPlans
pub mod Deadlocks
pub mod DeadLists
pub mod Avoidance
pub mod Serial
pub mod Counts
pub mod Relations
pub mod Statuses
pub mod Graphs
pub mod Finals
pub mod AgreementLaws
pub mod Causes
pub mod ReadAll
-- How the program does it: private contracts alone cite these.
pub mod inside
-- Words of contracts further down, which no promise of a program needs.
pub mod calls
