pub mod HandedOn
pub mod Rows
pub mod Marks
pub mod Places
