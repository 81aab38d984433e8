pub mod Held
pub mod Names
pub mod Origins
pub mod Places
pub mod Rows
pub mod Traces
pub mod HandedOn
