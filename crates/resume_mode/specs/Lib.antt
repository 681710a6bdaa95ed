pub mod Resumed
pub mod ResumeMode
