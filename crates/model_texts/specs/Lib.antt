pub mod ModelTexts
pub mod HeldModels
