pub mod Collectors
pub mod Names
