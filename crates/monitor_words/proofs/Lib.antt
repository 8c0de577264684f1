pub mod Ascending
pub mod Circles
pub mod OneMessage
pub mod Worked
pub mod Joined
