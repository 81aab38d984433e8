-- What contracts say of rows of labels, for the crate above.
pub use Rattle.key_labels.specs.Labels.{is_other}
