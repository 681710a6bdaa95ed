pub mod Numbers
pub mod Fitting
pub mod Ledgers
pub mod Compilation
