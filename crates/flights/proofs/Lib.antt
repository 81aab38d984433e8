pub mod CorrectionLemmas
pub mod MoveLemmas
pub mod NumberLemmas
