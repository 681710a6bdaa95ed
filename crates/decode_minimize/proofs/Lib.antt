mod Better
mod Refuting
mod Turning
mod Ready
mod Sound
mod Rounding
mod Makings
mod Hearing
mod Entries
pub mod AnswerParts
pub mod Answered
pub mod Lowerings
mod Sizes
