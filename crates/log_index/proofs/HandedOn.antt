-- Laws of rows of labels and of versioned rows, for the crate above.
pub use Rattle.dependency_index.proofs.HandedOn.{position_is}
pub use Rattle.versioned_rows.proofs.PrefixLemmas.{same_ordered}
