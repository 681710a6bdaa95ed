pub mod Closed
pub mod CnfLines
pub mod Faults
pub mod HeldCnfs
pub mod ReadLaws
