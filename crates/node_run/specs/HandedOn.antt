-- What receipts are of, for the crate above.
pub use Rattle.node_core.specs.Closings.{Agrees, AgreesSince, IsWhole, IsWholeSince, SamePlace, opened_at, row_count, since_of}
pub use Rattle.node_core.specs.declared.receipt.Receipt.{Receipt}
