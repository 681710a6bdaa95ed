pub mod ConflictLines
pub mod ConflictSays
pub mod ConflictDocuments
