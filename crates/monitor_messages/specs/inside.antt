pub mod Changes
pub mod Guarded
pub mod Taken
pub mod Newly
