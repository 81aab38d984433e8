pub mod KeyLemmas
pub mod ProgramLemmas
