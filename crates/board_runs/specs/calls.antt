pub mod Turns
pub mod TaskSeats
pub mod Endings
pub mod Rounds
