mod Bounds
pub mod Ends
mod Answered
