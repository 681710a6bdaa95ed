pub mod Witnesses
mod BoundLaws
mod OrderLaws
pub mod Shown
pub mod ClaimLaws
mod AgreementLaws
mod WrittenLines
pub mod SpelledWords
pub mod DocumentLines
pub mod LinesTell
pub mod ProofLinesTell
mod TextTells
