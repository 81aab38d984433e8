pub mod HeldLemmas
pub mod Json
pub mod MemberLemmas
pub mod RefusedLemmas
pub mod Settings
pub mod Standards
