pub mod Texts
pub mod Found
pub mod SatMode
