pub mod Ends
pub mod Accepted
