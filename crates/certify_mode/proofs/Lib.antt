mod Decided
pub mod Ends
mod Holdings
