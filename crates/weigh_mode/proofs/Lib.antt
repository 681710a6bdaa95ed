mod Sorting
mod Walks
pub mod Ends
mod Answered
