pub mod BlockLemmas
pub mod SearchLemmas
