mod Ordered
mod Headline
pub mod Ends
