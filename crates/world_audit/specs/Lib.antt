pub mod First
pub mod Sought
pub mod Conditions
pub mod Verdicts
