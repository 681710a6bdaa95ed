pub mod LinesTell
