pub mod MapLines
pub mod Headline
pub mod Ends
mod Answered
