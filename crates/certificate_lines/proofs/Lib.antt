pub mod LineLaws
pub mod Chains
pub mod Leads
pub mod NextValue
