pub mod Orders
pub mod Adding
pub mod Following
pub mod Waits
pub mod Laws
