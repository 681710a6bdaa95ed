pub mod Chosen
pub mod Typed
pub mod Weights
pub mod Weaving
pub mod Holding
pub mod Broken
pub mod Sided
