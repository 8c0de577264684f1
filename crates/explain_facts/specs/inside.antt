pub mod Facts
pub mod Firsts
pub mod Spelled
pub mod Marked
pub mod PhaseRows
pub mod Noted
