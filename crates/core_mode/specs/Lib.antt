pub mod Conflicts
pub mod CoreMode
pub mod Accepted
