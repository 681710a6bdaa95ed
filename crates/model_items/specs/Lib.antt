pub mod Items
pub mod Lent
pub mod ItemLimits
