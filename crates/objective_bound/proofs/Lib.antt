pub mod Objectives
pub mod Clauses
pub mod Betters
