pub mod Replaying
pub mod Records
pub mod Laws
