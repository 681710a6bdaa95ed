pub mod Fits
pub mod Compiled
