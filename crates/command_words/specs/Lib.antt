pub mod Numeral
pub mod Request
pub mod Line
pub mod Limits
