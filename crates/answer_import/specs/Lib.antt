pub mod Fronts
pub mod Cutting
pub mod Imports
pub mod Judging
pub mod Importing
pub mod FindingLaws
