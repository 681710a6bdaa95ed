pub mod RowLaws
pub mod PairLaws
pub mod Distinct
pub mod InstanceLaws
pub mod WordLaws
pub mod AtomLaws
pub mod OneValue
