pub mod FirstLines
mod Reading
mod Slices
