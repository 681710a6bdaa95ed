pub mod PartLaws
pub mod FreshLaws
mod CutLaws
