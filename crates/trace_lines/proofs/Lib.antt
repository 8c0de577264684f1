pub mod Numbers
pub mod WordByWord
pub mod Cuts
pub mod Exact
pub mod WholeLines
pub mod Again
