pub mod Ends
mod Telling
mod Written
