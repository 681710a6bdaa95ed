pub mod Different
pub mod Made
pub mod Searching
pub mod Shapes
