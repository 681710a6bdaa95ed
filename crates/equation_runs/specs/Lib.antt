pub mod Turns
pub mod TwinRuns
pub mod DifferentRuns
pub mod FreeAtoms
pub mod TwinPairs
pub mod BoundRows
pub mod RunRows
