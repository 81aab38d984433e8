pub mod Connections
pub mod Exchanging
pub mod Faults
