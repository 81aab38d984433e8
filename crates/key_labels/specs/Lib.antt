pub mod KeyRows
pub mod Labels
pub mod Rows
pub mod HandedOn
