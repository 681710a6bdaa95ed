pub mod Ends
mod Lists
