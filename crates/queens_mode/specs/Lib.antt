pub mod Summary
pub mod QueensMode
