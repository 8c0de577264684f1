pub mod Judged
pub mod Concluded
pub mod Followings
pub mod Waiting
pub mod Walks
pub mod GoingOn
