pub mod Found
pub mod Indexed
pub mod Kept
pub mod Programs
