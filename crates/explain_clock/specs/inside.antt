pub mod Passing
pub mod FewLines
pub mod ToldOf
pub mod ToldTogether
pub mod KeptLines
