pub mod LexParts
pub mod SumParts
pub mod PartsOf
pub mod DifferingParts
pub mod MarksByValue
pub mod CutsOf
