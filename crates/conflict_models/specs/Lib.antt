pub mod ConflictModels
