pub mod Lowering
pub mod Weighed
pub mod Faults
pub mod Decoded
pub mod Fits
pub mod ItemLaws
pub mod Drafting
pub mod Walk
