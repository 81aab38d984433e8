pub mod Readings
pub mod Programs
pub mod Answers
pub mod Past
pub mod HandedOn
