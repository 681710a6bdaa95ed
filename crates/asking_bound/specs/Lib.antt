pub mod NewLabels
pub mod Made
pub mod Questions
pub mod Laws
