pub mod Compiled
pub mod CompileMode
pub mod AnswerLaw
