pub mod Clauses
pub mod Codes
pub mod Layout
pub mod Sliding
pub mod References
