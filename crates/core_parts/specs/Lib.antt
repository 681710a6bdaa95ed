pub mod Parts
pub mod Size
