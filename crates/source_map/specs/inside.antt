pub mod Rows
pub mod Seeking
pub mod Tables
