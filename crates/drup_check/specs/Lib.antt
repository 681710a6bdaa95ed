pub mod Rup
pub mod Stored
pub mod Keeping
pub mod Standing
pub mod DrupLines
pub mod Laws
pub mod Denying
pub mod Taken
