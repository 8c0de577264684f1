pub mod Falls
pub mod Seen
pub mod Reading
pub mod Statements
pub mod PlReading
pub mod Beginnings
pub mod Closings
