mod StartLemmas
mod EndLemmas
mod ReadLemmas
mod TextLemmas
mod TakenLemmas
mod CopyLemmas
mod FieldLemmas
mod BodyLemmas
mod HeadEnds
mod LineLemmas
pub mod MapLemmas
pub mod OneAnswer
pub mod PassLemmas
pub mod PlainLemmas
pub mod RequestsBack
pub mod ResponsesBack
