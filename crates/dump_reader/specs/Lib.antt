pub mod Alone
pub mod Reading
pub mod Refusals
pub mod Spelled
