pub mod EnteredLemmas
pub mod KeptLemmas
pub mod LineLemmas
pub mod OnlyLemmas
pub mod ReadLemmas
pub mod RowLemmas
pub mod SpelledLemmas
