pub mod Entries
pub mod Levels
pub mod Trails
mod Tabled
mod Keeping
