pub mod BindLemmas
pub mod CutLemmas
pub mod PathLemmas
pub mod PatternLemmas
