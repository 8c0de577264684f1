pub mod Noted
pub mod Framed
pub mod Seen
pub mod Seeks
pub mod Told
