mod Numerals
mod Rules
mod Taken
pub mod RequestLimits
