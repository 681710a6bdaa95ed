pub mod OrderRows
pub mod AtomRows
pub mod CompareRows
pub mod Instances
