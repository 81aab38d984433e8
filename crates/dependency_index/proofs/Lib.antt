pub mod IndexLemmas
pub mod LoopLemmas
pub mod NumberLemmas
pub mod PruneLemmas
pub mod PutLemmas
pub mod RoomLemmas
pub mod ScanLemmas
pub mod HandedOn
