pub mod Codes
pub mod Corrections
pub mod Entries
pub mod Keys
pub mod Records
pub mod Folded
pub mod HandedOn
