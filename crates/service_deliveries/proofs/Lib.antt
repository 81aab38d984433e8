pub mod TakeLemmas
mod ReplyLemmas
mod RefusalLemmas
mod HearLemmas
mod PostLemmas
mod FetchLemmas
