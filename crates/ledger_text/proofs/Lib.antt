pub mod Spelled
pub mod StepWords
