pub mod Handings
pub mod Opened
pub mod Stands
