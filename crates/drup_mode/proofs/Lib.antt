pub mod Ends
mod EmptyProofs
