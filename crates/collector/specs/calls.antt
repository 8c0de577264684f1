pub mod Passes
pub mod Collectors
