pub mod ExchangeLemmas
pub mod CallLemmas
pub mod AnswerLemmas
pub mod PostLemmas
pub mod ReplyLemmas
