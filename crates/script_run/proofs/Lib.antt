pub mod CountLaws
pub mod LineLaws
pub mod PlayLaws
pub mod AuditLaws
pub mod Following
pub mod SettlingLaws
pub mod Standing
pub mod DumpLemmas
mod PreviewLemmas
mod GivenLemmas
pub mod HandedOn
