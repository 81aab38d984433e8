pub mod PlaceLemmas
pub mod ReadLemmas
pub mod RowLemmas
pub mod SeekLemmas
