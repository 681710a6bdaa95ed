pub mod Solved
pub mod SolveMode
