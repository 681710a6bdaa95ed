pub mod Shapes
pub mod Comparisons
pub mod Linear
pub mod Pairs
pub mod Statements
pub mod Weight
