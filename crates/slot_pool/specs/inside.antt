pub mod Views
pub mod Rule
pub mod Pools
pub mod Workers
pub mod Parting
pub mod Gathering
