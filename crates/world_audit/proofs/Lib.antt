pub mod FirstLemmas
pub mod PartnerLemmas
pub mod SoughtLemmas
pub mod VerdictLemmas
