pub mod Trees
pub mod Grammar
pub mod Bodies
pub mod Parsing
pub mod Laws
