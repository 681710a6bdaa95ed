pub mod Closing
mod Lists
mod DraftSame
pub mod Exact
pub mod Reading
pub mod TextFaults
