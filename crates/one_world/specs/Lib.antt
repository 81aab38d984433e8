pub mod Certificates
pub mod Checks
pub mod OneWorld
pub mod Searches
pub mod Tapes
pub mod Trees
pub mod Turns
