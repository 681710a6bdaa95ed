pub mod CertificateLines
pub mod Counts
pub mod Laws
pub mod NextValues
