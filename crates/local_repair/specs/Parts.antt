-- The parts of a record that is current, and of a step.
use Rattle.std.specs.Prelude.{◌≡◌, Bool, map}
use Rattle.lang_base.specs.Equal.{equal}
use Rattle.lang_core.specs.contracts.request.Response as response
use Rattle.lang_core.specs.declared.request.Response.{Response}
use Rattle.request_log.specs.Entries.{is_alive}
use Rattle.request_log.specs.declared.entry.Entry.{Entry}
use Rattle.request_log.specs.declared.entry.Made.{Made}
use Rattle.local_repair.specs.Current.{Consumed}

-- a record is of the entry as it is now, and consumed the answers of now
pub record IsOf (consumed : Consumed) (e : Entry) (m : Made) : Type 0 where
  pub alive : m.alive ≡ is_alive e
  pub version : m.version ≡ e.version
  pub request : m.request ≡ e.request
  pub answers : m.trace.answers ≡ map consumed e.slots

abbrev pub same_response : Response → Response → Bool
same_response a b = equal response.the_row.coded a b
