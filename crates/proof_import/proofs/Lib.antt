mod WithUnit
mod Steps
mod ByKind
