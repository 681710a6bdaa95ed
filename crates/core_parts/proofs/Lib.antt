pub mod PartLaws
pub mod PartSizes
