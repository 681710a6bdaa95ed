pub mod Luby
pub mod Stretches
pub mod TrailNumber
