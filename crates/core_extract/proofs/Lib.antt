pub mod Marks
pub mod Divisions
pub mod Replies
pub mod Attempts
pub mod Turns
pub mod Conflicts
pub mod Claimed
