pub mod Kinds
pub mod Refusals
