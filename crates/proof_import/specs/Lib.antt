pub mod Assumed
pub mod Refutations
