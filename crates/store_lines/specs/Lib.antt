pub mod Lines
pub mod Seals
pub mod Readings
