pub mod AnswerLemmas
pub mod PreviewLemmas
pub mod ReplyLemmas
