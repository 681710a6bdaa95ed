pub mod Trail
pub mod Standing
pub mod Tables
pub mod Laws
