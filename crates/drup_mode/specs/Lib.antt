pub mod Proved
pub mod DrupMode
pub mod EmptyLaw
