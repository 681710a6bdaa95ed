pub mod Ends
pub mod AnswerEnds
pub mod AnswerRefusals
mod SomeAnswer
pub mod ListEnds
mod SomeList
pub mod ConflictEnds
mod SomeConflict
