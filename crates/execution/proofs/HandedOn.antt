-- Laws of runs, for the crate above.
pub use Rattle.handler_run.proofs.RunLaws.{counts_done, few_wants, goes_on_wants, reads_done, same_done, starts, takes_done}
pub use Rattle.handler_run.proofs.SameHandlers.{runs_alike}
