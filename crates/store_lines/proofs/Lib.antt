pub mod WholeLemmas
pub mod TextLemmas
pub mod BlendLemmas
pub mod SealLemmas
pub mod MarkLemmas
pub mod ReadAsLemmas
pub mod WindowLemmas
