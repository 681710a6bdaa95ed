pub mod Queens
pub mod Placements
