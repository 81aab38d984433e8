mod NamedLemmas
pub mod SealLemmas
pub mod SpeltLemmas
pub mod WordLemmas
pub mod FormLemmas
mod HeaderNames
pub mod PlainForms
pub mod Refusals
pub mod MadeHeads
pub mod SameFields
