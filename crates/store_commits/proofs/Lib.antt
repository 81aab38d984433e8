pub mod BeginLemmas
pub mod TextLemmas
pub mod WriteLemmas
