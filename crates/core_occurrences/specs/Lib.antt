pub mod Lists
pub mod Bodies
pub mod Chains
pub mod Held
pub mod Kept
pub mod Laws
