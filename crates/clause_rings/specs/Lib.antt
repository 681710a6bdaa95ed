pub mod Clauses
pub mod Watches
pub mod Looks
pub mod Keeping
pub mod Attaching
pub mod Moves
