pub mod Size
pub mod StatementLaws
