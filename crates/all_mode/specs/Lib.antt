pub mod Listed
pub mod AllMode
pub mod AllLaws
