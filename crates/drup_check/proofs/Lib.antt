pub mod Members
pub mod Implied
pub mod Trails
pub mod Permuted
pub mod Denials
pub mod Rups
pub mod Additions
mod Started
mod TwoTiers
mod CopiedLists
mod Spelled
mod Taking
pub mod Taken
mod Checked
pub mod Exact
pub mod Proved
