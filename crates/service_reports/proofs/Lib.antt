pub mod ChangedLemmas
pub mod LineLemmas
pub mod PreviewLemmas
pub mod ShownLaws
