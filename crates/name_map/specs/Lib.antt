pub mod Values
pub mod Trimmed
pub mod Fits
pub mod ValueLines
