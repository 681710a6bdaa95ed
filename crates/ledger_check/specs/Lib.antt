pub mod Items
pub mod Tests
pub mod Reading
pub mod Fronts
pub mod Laws
pub mod Taken
pub mod Checked
