-- A log as a history of requests.
use Rattle.std.specs.Prelude.{◌≡◌, List, [], Option, Some, map, option_map}
use Rattle.std.specs.Option.{option_map_or}
use Rattle.lang_core.specs.declared.cells.Cell.{Cell}
use Rattle.lang_core.specs.declared.request.Response.{Response}
use Rattle.lang_core.specs.declared.setting.Setting.{Setting}
use Rattle.lang_core.specs.declared.trace.Trace.{Trace}
use Rattle.execution.specs.Executions.{Act, Deed, IsReplay, Replays}
use Rattle.request_log.specs.Records.{Record, record_of}
use Rattle.request_log.specs.declared.entry.Entry.{Entry}
use Rattle.request_log.specs.declared.entry.Made.{Made}
use Rattle.local_repair.specs.Current.{Consumed, rows_after}

-- what others see of a record
abbrev pub deed_in : Record → Deed
deed_in r = record { calls = r.calls; response = r.response }

-- an entry as a request of a history, under its program, with these answers
abbrev pub act_with : List Response → Entry → Act
act_with answers e =
    record {
      id = e.id;
      origin = e.origin;
      wanted = e.wanted;
      struck = e.struck;
      request = e.request;
      inputs = e.inputs;
      program = e.under.now.program;
      numbers = e.slots;
      answers = answers;
      did = option_map deed_in (record_of e);
    }

-- with those that its calls consume now
abbrev pub act_of : Consumed → Entry → Act
act_of consumed e = act_with (map consumed e.slots) e

-- with those that it consumed when it ran last
abbrev pub act_kept : Entry → Act
act_kept e = act_with (option_map_or (λ (r : Record). r.answers) (record_of e) []) e

-- the whole trace of an entry's last run; none where it never ran
abbrev pub trace_of : Entry → Option Trace
trace_of e = option_map (λ (m : Made). m.trace) e.made

-- entries, from these rows on, replay to their recorded traces, and to the rows that these leave
pub record ReplayAsRecorded (setting : Setting) (consumed : Consumed) (base : List Cell) (entries : List Entry) : Type 0 where
  pub traces : List Trace
  pub replay : IsReplay setting base (map (act_of consumed) entries) traces (rows_after base entries)
  pub recorded : map trace_of entries ≡ map Some traces

-- entries, from no rows on, did what their records say, with the answers that these have, and leave these rows
abbrev pub ReplayAsKept : Setting → List Entry → List Cell → Type 0
ReplayAsKept setting entries rows = Replays setting [] (map act_kept entries) rows
