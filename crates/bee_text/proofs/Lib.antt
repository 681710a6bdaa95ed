pub mod SearchLemmas
pub mod LineLemmas
pub mod WordLemmas
pub mod GapLemmas
pub mod NumberLemmas
