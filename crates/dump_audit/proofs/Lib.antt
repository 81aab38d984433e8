pub mod DumpSends
pub mod Firsts
pub mod FoundLemmas
pub mod GroupLemmas
pub mod LegalLaws
pub mod OneLemmas
pub mod ReplayLaws
pub mod ServedLaws
