pub mod Compilation
pub mod StandsFor
pub mod Size
