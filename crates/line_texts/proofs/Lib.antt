pub mod Leads
pub mod ReadTo
pub mod Fronts
pub mod WholeOrMisfit
