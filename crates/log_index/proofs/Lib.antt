pub mod EditLemmas
pub mod LabelLemmas
pub mod PlaceLemmas
pub mod ReadyLemmas
pub mod BehindLemmas
pub mod MarkLemmas
pub mod NotedLemmas
pub mod HandedOn
