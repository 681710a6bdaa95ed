mod Told
mod NotDifferent
mod Weaker
