pub mod Pairs
pub mod Found
pub mod Stated
pub mod Constant
