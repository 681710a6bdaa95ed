pub mod Short
pub mod Decoding
