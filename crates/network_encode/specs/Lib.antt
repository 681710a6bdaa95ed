pub mod AtomParts
pub mod AtomCuts
pub mod CountParts
pub mod MergeParts
pub mod NetworkParts
pub mod TakenParts
