pub mod Journals
pub mod Keys
pub mod Programs
pub mod Weights
pub mod Words
