pub mod Holding
pub mod Certified
pub mod CertifyMode
