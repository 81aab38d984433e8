pub mod Settles
pub mod Doing
