pub mod LineByLine
pub mod Ends
