pub mod KeptLemmas
pub mod ProgramSends
