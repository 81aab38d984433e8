pub mod ChangeLemmas
pub mod OverlayLemmas
pub mod QueueLemmas
pub mod ReplyLemmas
pub mod WaitingLemmas
