pub mod Walking
pub mod Boards
pub mod EndedBoards
pub mod FirstViews
pub mod ByMembers
pub mod Sitting
pub mod Viewing
