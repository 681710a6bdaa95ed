mod Cuts
mod Values
pub mod Spelled
pub mod Begun
pub mod Told
pub mod Faulty
pub mod ByLines
pub mod Whole
pub mod Ends
pub mod OneFault
pub mod Fitting
mod Taken
mod LineRun
mod Kept
