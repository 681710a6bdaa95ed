pub mod Idle
mod FirstEnds
mod TwoEnds
mod Answering
pub mod OneAnswer
pub mod NoAnswer
pub mod TwoAnswers
pub mod OneFree
pub mod TwoFree
