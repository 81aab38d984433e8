pub mod Executions
pub mod Together
pub mod HandedOn
