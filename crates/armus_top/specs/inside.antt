pub mod Writing
pub mod Reading
pub mod Serving
pub mod TwoLines
pub mod Answers
