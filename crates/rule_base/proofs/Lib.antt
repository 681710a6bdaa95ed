pub mod PairLaws
pub mod FoundLaws
pub mod StatedLaws
pub mod ConstantLaws
