pub mod BookLemmas
mod StepDraftLemmas
pub mod OrderLemmas
mod ProgramLemmas
mod RepairLemmas
mod DraftedLemmas
pub mod DoneLemmas
pub mod FoldLemmas
mod NamedLemmas
