pub mod Handlers
pub mod Laws
pub mod Reads
pub mod Runs
pub mod HandedOn
