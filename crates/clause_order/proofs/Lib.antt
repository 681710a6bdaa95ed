pub mod DistinctSteps
