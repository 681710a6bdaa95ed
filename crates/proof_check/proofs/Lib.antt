mod Ascending
mod Living
mod Placed
mod Found
mod Denied
mod Followed
mod Killed
mod Checks
mod Truths
pub mod Implied
mod Written
mod Spelled
