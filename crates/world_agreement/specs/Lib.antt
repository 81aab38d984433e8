pub mod Partners
pub mod Quiet
pub mod Legal
pub mod HandedOn
