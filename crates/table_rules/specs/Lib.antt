pub mod Rows
pub mod Pairs
pub mod Instances
pub mod Words
