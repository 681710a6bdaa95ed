pub mod ClauseHash
