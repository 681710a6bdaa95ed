pub mod Scope
pub mod Sizes
pub mod Limits
pub mod Faults
pub mod Items
pub mod Taken
pub mod Laws
