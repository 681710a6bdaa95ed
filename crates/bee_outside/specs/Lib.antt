pub mod Faults
pub mod Bytes
pub mod ReadText
pub mod MemShelf
pub mod MemFiles
pub mod MemSink
