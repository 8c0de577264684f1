pub mod Search
pub mod Rows
pub mod NextTables
