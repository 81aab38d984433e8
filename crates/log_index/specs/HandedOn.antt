-- What contracts say of reads by where they looked, for the crate above.
pub use Rattle.dependency_index.specs.Numbers.{Rises}
pub use Rattle.dependency_index.specs.Reads.{read_at}
pub use Rattle.dependency_index.specs.declared.reads.ReadAt.{ReadAt}
