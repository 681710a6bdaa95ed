mod Heads
mod Answers
mod Stepping
mod Certificates
mod Endings
pub mod Onward
mod Backward
pub mod ValidWhole
mod WordLaws
mod Takings
mod OpeningLaws
mod BehindLaws
mod LineWords
mod Beginnings
pub mod DocumentLines
mod Endgame
mod Judgements
pub mod OneFault
