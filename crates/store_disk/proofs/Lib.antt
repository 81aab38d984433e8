pub mod WriteLemmas
pub mod RestLemmas
pub mod ReadLemmas
