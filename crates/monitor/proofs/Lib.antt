pub mod Bytes
pub mod Logs
pub mod Pieces
pub mod Endings
pub mod Calls
pub mod Cuts
pub mod OneOutput
pub mod ReadWhole
