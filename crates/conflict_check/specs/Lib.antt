pub mod Marks
pub mod Heads
pub mod Parts
pub mod Readings
pub mod Checked
