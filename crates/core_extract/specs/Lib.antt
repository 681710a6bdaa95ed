pub mod Parts
pub mod Extracted
pub mod Claims
