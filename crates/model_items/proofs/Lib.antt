pub mod Steps
pub mod LimitLaws
