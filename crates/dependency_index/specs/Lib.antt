pub mod Index
pub mod Numbers
pub mod Reads
pub mod Rows
pub mod HandedOn
