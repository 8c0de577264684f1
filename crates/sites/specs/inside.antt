pub mod Reading
pub mod Snapping
pub mod Gathering
pub mod Passing
pub mod Putting
