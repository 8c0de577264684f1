pub mod Indexes
pub mod NumberedLists
pub mod Taking
pub mod Values
pub mod inside
