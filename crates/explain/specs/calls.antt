pub mod Requested
pub mod Laws
