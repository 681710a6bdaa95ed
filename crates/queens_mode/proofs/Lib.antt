pub mod Ends
mod Placings
mod Written
