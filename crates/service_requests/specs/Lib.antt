pub mod Endings
pub mod Arrivals
pub mod Changes
pub mod Deletions
