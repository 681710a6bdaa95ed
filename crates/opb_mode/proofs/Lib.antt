pub mod Shapes
pub mod Faults
pub mod Ends
pub mod Verdicts
