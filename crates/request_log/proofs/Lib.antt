pub mod ChangeLemmas
pub mod CorrectLemmas
pub mod EntryLemmas
pub mod FindLemmas
pub mod FoldedFindLemmas
pub mod FoldedLemmas
pub mod WholeLemmas
