pub mod Values
pub mod TextLines
pub mod TextSteps
pub mod Steps
pub mod Entries
pub mod Faults
pub mod ReadLaws
pub mod AnswerLaws
