pub mod EndLemmas
pub mod ArrivalLemmas
pub mod CallLemmas
pub mod ServiceLemmas
mod DeletionLemmas
