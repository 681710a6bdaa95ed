pub mod Bounded
pub mod BoundMode
