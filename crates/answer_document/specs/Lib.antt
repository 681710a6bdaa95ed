pub mod Goals
pub mod Verdicts
pub mod DocumentText
pub mod Claims
pub mod BoundAtoms
pub mod Valid
pub mod Laws
pub mod Told
