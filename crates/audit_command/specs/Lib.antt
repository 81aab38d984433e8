pub mod Audits
pub mod Causes
