pub mod Hints
pub mod LratLines
pub mod Stored
pub mod Kinds
pub mod Laws
