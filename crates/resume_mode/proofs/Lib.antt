mod Refusals
mod ToldTexts
pub mod Ends
