-- Services whose logs and rows are one legal execution.
use Rattle.std.specs.Prelude.{◌≡◌, List, [], ◌++◌, Some, All, IsSomeAnd, map}
use Rattle.lang_core.specs.declared.trace.Trace.{Trace}
use Rattle.execution.specs.Executions.{History, IsReplay}
use Rattle.execution.specs.Together.{IsLegalTogether}
use Rattle.request_log.specs.Records.{record_of}
use Rattle.request_log.specs.declared.entry.Entry.{Entry}
use Rattle.local_repair.specs.Current.{rows_after}
use Rattle.local_repair.specs.Histories.{act_of, trace_of}
use Rattle.service_events.specs.State.{Kept, base, answers, folded, unfolded}

-- a service's log as a history, its folded entries first, with what its calls consume now. Of a folded entry these are the answers that it
-- keeps, as `IsAsRecorded` has it, so that it replays with what it keeps
abbrev pub history : Kept → History
history s =
    record { setting = s.setting; acts = map (act_of (answers s)) s.entries; rows = rows_after (base s) (unfolded s) }

abbrev pub histories : List Kept → List History
histories services = map history services

-- an entry keeps the answers that its calls consume now
abbrev pub KeepsAnswers : Kept → Entry → Type 0
KeepsAnswers s e = IsSomeAnd (record_of e) (λ r. r.answers ≡ map (answers s) e.slots)

-- its requests replay from empty rows on and leave its rows: first the folded ones, with the answers that they keep, to the calls and responses
-- that they keep, and behind them the others, to their whole records, reads and writes included
pub record IsAsRecorded (s : Kept) : Type 0 where
  pub before : List Trace
  pub traces : List Trace
  pub replay : IsReplay s.setting [] (history s).acts (before ++ traces) (history s).rows
  pub recorded : map trace_of (unfolded s) ≡ map Some traces
  pub kept : All (KeepsAnswers s) (folded s)

-- their histories are one legal execution of the surviving requests, and the traces of its replay are their records
pub record AreLegal (services : List Kept) : Type 0 where
  pub together : IsLegalTogether (histories services)
  pub recorded : All IsAsRecorded services
