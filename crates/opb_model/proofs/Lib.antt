mod Lists
mod Lines
pub mod Names
pub mod Sums
pub mod Solving
pub mod Passing
pub mod ItemsPass
pub mod Said
