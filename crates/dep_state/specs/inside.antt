pub mod Made
pub mod Order
pub mod LowerBounds
pub mod Names
