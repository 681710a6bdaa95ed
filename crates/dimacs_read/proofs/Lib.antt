mod ValuesTell
mod ValuesRead
mod TextSame
mod StepsRead
mod Pieces
mod LiteralsRead
mod TextRead
mod NewNames
mod TextLeads
mod Taken
mod Searches
mod LinesDecided
mod ValuesDecided
pub mod Exact
pub mod Lawful
pub mod Answered
