pub mod Words
pub mod OneLine
pub mod Standings
pub mod ConflictLaws
pub mod Written
pub mod WholeText
pub mod OneText
