pub mod FoldLemmas
mod FirstLemmas
mod HeldLemmas
mod QueueLemmas
