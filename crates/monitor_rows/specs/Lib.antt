pub mod KnownNames
pub mod Places
pub mod inside
