mod Pushed
pub mod Placing
mod ModelTests
mod StatementTests
mod Sizes
