-- What contracts say of records, of entries that are current and of the first that is not, for the crates above.
pub use Rattle.local_repair.specs.Steps.{calls_of_made}
pub use Rattle.local_repair.specs.Current.{AllCurrent}
pub use Rattle.local_repair.specs.Repairs.{IsStaleId}
