-- What a run of a handler is, and programs by their numbers, for the crate above.
pub use Rattle.handler_run.specs.Handlers.{handler_of, run_of}
pub use Rattle.handler_run.specs.HandedOn.{Block, Numbered, Route, block_code, with_program}
pub use Rattle.handler_run.specs.Laws.{calls_of}
pub use Rattle.handler_run.specs.Reads.{Gives, GivesAll}
pub use Rattle.handler_run.specs.declared.state.Ran.{Ran}
pub use Rattle.handler_run.specs.declared.state.Ran.TheVariants.{Done, Wants}
