pub mod Only
pub mod PartLaws
pub mod CoreWeight
pub mod Sides
pub mod DividedLaws
