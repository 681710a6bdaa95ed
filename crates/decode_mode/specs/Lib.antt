pub mod Decoded
pub mod DecodeMode
pub mod AnswerLaw
