-- Laws of rows of labels, for the crate above.
pub use Rattle.key_labels.proofs.ApartLemmas.{position_is}
pub use Rattle.key_labels.proofs.EditLemmas.{ok_is}
pub use Rattle.key_labels.proofs.RisingLemmas.{known, known_at}
