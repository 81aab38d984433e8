pub mod IdLemmas
pub mod Named
pub mod Parsed
