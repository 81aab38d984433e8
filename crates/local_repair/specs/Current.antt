-- Which entries of a log are current, and which is the first that is stale.
use Rattle.std.specs.Prelude.{ℕ, ◌≡◌, ◌<◌, ◌≤◌, List, [], ◌∷◌, Option, Some, None, map, fold, take, length, IsSomeAnd, IfSome, All}
use Rattle.std.specs.List.{HoldsAt}
use Rattle.lang_core.specs.Rows.{apply}
use Rattle.lang_core.specs.Traces.{dead_trace}
use Rattle.lang_core.specs.declared.cells.Cell.{Cell}
use Rattle.lang_core.specs.declared.inputs.Inputs.{Inputs}
use Rattle.lang_core.specs.declared.request.Response.{Response}
use Rattle.lang_core.specs.declared.setting.Setting.{Setting}
use Rattle.lang_core.specs.declared.writes.Write.{Write}
use Rattle.execution.specs.HandedOn.{run_of}
use Rattle.execution.specs.HandedOn.{GivesAll}
use Rattle.execution.specs.HandedOn.{Done}
use Rattle.request_log.specs.Entries.{is_alive}
use Rattle.request_log.specs.declared.entry.Entry.{Entry}
use Rattle.request_log.specs.declared.entry.Made.{Made}
use Rattle.std.specs.Prelude.{true, false}
use Rattle.local_repair.specs.Programs.{setting_ran, HasItsHandler}

-- the writes of a record, if there is one
abbrev pub writes_of : Option Made → List Write
writes_of None = []
writes_of (Some m) = m.trace.writes

-- the rows after an entry
abbrev pub after_entry : List Cell → Entry → List Cell
after_entry rows e = apply rows (writes_of e.made)

-- the rows after these entries, where these rows were before them
abbrev pub rows_after : List Cell → List Entry → List Cell
rows_after rows entries = fold after_entry rows entries

-- what the register of each number consumes now
abbrev pub Consumed : Type 0
Consumed = ℕ → Response

-- a record is of the entry as it is now, made by the handler that is the entry's now, and it read and consumed what there is now
pub record IsCurrentRecord (consumed : Consumed) (rows : List Cell) (e : Entry) (m : Made) : Type 0 where
  pub alive : m.alive ≡ is_alive e
  pub version : m.version ≡ e.version
  pub request : m.request ≡ e.request
  pub reads : GivesAll rows m.trace.reads
  pub answers : m.trace.answers ≡ map consumed e.slots
  pub handler : HasItsHandler e

-- an entry that isn't stale, where these are the rows before it
abbrev pub IsCurrent : Consumed → List Cell → Entry → Type 0
IsCurrent consumed rows e = IsSomeAnd e.made (λ m. IsCurrentRecord consumed rows e m)

-- none of these entries is stale, where these are the rows before the first
abbrev pub AllCurrent : Consumed → List Cell → List Entry → Type 0
AllCurrent consumed rows [] = Unit {0}
AllCurrent consumed rows (e ∷ es) = IsCurrent consumed rows e × AllCurrent consumed (after_entry rows e) es

-- of these entries so many of the first are known to be current, where these are the rows before the first
pub record AreChecked (consumed : Consumed) (base : List Cell) (entries : List Entry) (checked : ℕ) : Type 0 where
  pub within : checked ≤ length entries
  pub current : AllCurrent consumed base (take checked entries)

-- the entry at this place is stale, and none before it, where these are the rows before the first
pub record IsFirstStale (consumed : Consumed) (base : List Cell) (entries : List Entry) (place : ℕ) : Type 0 where
  pub within : place < length entries
  pub before : AllCurrent consumed base (take place entries)
  pub stale : HoldsAt (λ e. ¬ IsCurrent consumed (rows_after base (take place entries)) e) entries place

-- a record is what a run gave: on any rows that give what it read it is the run, and it is the dead trace where it was made dead
pub record IsRun (setting : Setting) (inputs : Inputs) (m : Made) : Type 0 where
  pub live : m.alive ≡ true → (rows : List Cell) → GivesAll rows m.trace.reads
      → run_of setting m.request inputs m.trace.answers rows ≡ Done m.trace
  pub dead : m.alive ≡ false → m.trace ≡ dead_trace

-- each record is what a run gave, under the program of which it was made
abbrev pub AllRuns : Setting → List Entry → Type 0
AllRuns setting entries = All (λ e. IfSome e.made (IsRun (setting_ran setting e) e.inputs)) entries
