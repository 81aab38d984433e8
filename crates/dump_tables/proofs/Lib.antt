pub mod FoundLemmas
pub mod IndexLemmas
pub mod PlaceLemmas
