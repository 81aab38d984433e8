pub mod BackLaws
pub mod ServeLemmas
pub mod ActLemmas
pub mod PartLemmas
pub mod PacketLemmas
pub mod OrderLemmas
pub mod WorldLemmas
pub mod HandedOn
