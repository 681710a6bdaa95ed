pub mod Models
pub mod Items
pub mod Written
pub mod Meaning
pub mod Laws
