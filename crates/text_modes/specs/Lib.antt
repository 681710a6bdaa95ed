pub mod Seen
pub mod Ends
pub mod Promises
pub mod Refusal
pub mod OneText
pub mod NoText
pub mod TwoTexts
