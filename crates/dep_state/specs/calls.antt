pub mod Deps
pub mod Picks
