pub mod Heaviest
pub mod Kept
pub mod WeighingText
pub mod WeighMode
pub mod AnswerLaws
