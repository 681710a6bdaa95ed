mod Entries
pub mod Literals
mod Nodes
mod Looking
mod Db
mod Guards
mod Watching
mod Kept
mod Looked
mod Two
mod Walked
mod Attaching
mod Reordered
mod Linked
mod Propagated
mod Backwards
mod ComeAndGo
pub mod Widened
pub mod Ascending
mod Reasons
