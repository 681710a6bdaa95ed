mod Names
pub mod ModelShapes
pub mod Weights
pub mod FirstFaults
pub mod OneModel
pub mod FaultOrModel
mod Causes
pub mod HeavyFaults
