pub mod EscapeLemmas
pub mod KeyEscapes
pub mod NameLemmas
pub mod Outcomes
pub mod WordLemmas
