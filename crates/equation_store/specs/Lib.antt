pub mod Class
pub mod Ring
pub mod Store
pub mod Merge
pub mod Laws
