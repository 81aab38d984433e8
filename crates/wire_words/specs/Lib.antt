pub mod Failures
pub mod Posts
pub mod Refusals
pub mod Words
