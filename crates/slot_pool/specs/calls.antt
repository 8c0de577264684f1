pub mod Views
pub mod PoolValues
pub mod Steps
pub mod Closing
