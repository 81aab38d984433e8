pub mod Certificates
pub mod Cycles
pub mod Logs
pub mod Pairs
pub mod Roots
pub mod Shown
pub mod Worlds
