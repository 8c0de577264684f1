pub mod Known
pub mod calls
pub mod inside
