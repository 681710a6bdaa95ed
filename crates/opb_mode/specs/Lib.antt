pub mod Files
pub mod OpbModelMode
pub mod OpbMode
pub mod Claims
pub mod Laws
