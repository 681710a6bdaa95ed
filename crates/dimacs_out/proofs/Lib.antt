pub mod Written
pub mod SpelledWords
pub mod WordsTell
pub mod LinesTell
pub mod LedgerTells
pub mod TextTells
