pub mod Requested
pub mod StatusNumbers
