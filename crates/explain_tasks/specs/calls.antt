pub mod Fitting
pub mod SayingValues
pub mod Grouped
pub mod Passing
pub mod Laws
