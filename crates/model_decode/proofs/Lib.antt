pub mod Ranges
pub mod Solutions
