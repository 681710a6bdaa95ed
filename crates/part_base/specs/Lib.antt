pub mod PartsFor
pub mod FreshTruths
pub mod Cuts
