pub mod Abouts
pub mod Escapes
pub mod Notices
pub mod Reports
pub mod HandedOn
