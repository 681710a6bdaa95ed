mod Cells
mod Touched
mod Members
mod Literals
pub mod Places
mod Meets
mod Counting
mod Derived
mod Resolves
mod Walks
mod Seeks
mod Steps
mod Follows
mod Collects
mod Works
pub mod Accepted
pub mod Newness
