-- What services mean by entries, flights and traces, for the crates above.
pub use Rattle.flights.specs.declared.flight.Flight.{Flight}
pub use Rattle.local_repair.specs.Current.{rows_after}
pub use Rattle.request_log.specs.Entries.{has_id, has_origin}
pub use Rattle.request_log.specs.declared.entry.Entry.{Entry}
pub use Rattle.request_log.specs.declared.entry.Made.{Made}
pub use Rattle.lang_programs.specs.Numbered.{Numbered}
pub use Rattle.lang_programs.specs.Settings.{with_program}
pub use Rattle.local_repair.specs.Alone.{trace_or_dead}
pub use Rattle.local_repair.specs.declared.stepped.Stepped.{Stepped}
pub use Rattle.local_repair.specs.declared.stepped.Stepped.TheVariants.{Idle, Ran}
