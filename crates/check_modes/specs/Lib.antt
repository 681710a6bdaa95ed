pub mod Kinds
pub mod Checks
pub mod CheckMode
pub mod CheckAllMode
pub mod CheckCoreMode
pub mod AnswerLaws
