-- What registers have to settle, and what comes of running an entry again with them.
use Rattle.std.specs.Prelude.{ℕ, ◌≡◌, ◌≤◌, ◌+◌, List, [], All, Contains, length, map, take}
use Rattle.lang_core.specs.Traces.{dead_trace}
use Rattle.lang_core.specs.declared.cells.Cell.{Cell}
use Rattle.lang_core.specs.declared.request.Response.{Response}
use Rattle.lang_core.specs.declared.setting.Setting.{Setting}
use Rattle.lang_core.specs.declared.trace.Trace.{Trace}
use Rattle.execution.specs.HandedOn.{run_of}
use Rattle.execution.specs.HandedOn.{Done}
use Rattle.request_log.specs.Entries.{with_run}
use Rattle.request_log.specs.declared.entry.Entry.{Entry}
use Rattle.local_repair.specs.Current.{AllCurrent, AllRuns}
use Rattle.local_repair.specs.Programs.{setting_of}
use Rattle.local_repair.specs.Registers.{SlotsChange}
use Rattle.local_repair.specs.Steps.{calls_of_made, is_new_answer, raised, raised_if, IsRerun, IsFreshOr, StandOnce, AreApart}
use Rattle.local_repair.specs.declared.remaking.Rerun.{Rerun}

-- an entry has as many slots as its last run had calls
abbrev pub HasItsSlots : Entry → Type 0
HasItsSlots e = length e.slots ≡ length (calls_of_made e.made)

-- none of its slots stands twice
abbrev pub HasSlotsOnce : Entry → Type 0
HasSlotsOnce e = StandOnce e.slots

-- whatever a run of the entry under its program comes to can be settled
pub record CanSettle (can : Entry → Trace → Type 0) (setting : Setting) (e : Entry) : Type 0 where
  pub live : (rows : List Cell) (t : Trace) → run_of (setting_of setting e) e.request e.inputs t.answers rows ≡ Done t → can e t
  pub dead : can e dead_trace

-- a trace without calls
abbrev pub CallsNone : Entry → Trace → Type 0
CallsNone e t = t.calls ≡ []

-- these numbers were given for these answers, each once, each the entry's own or new; where the registers were timely they consume the answers; every other number consumes what it did
pub record IsSettled (c : SlotsChange) (own numbers : List ℕ) (answers : List Response) : Type 0 where
  pub count : length numbers ≡ length answers
  pub consumes : c.timely → map c.after numbers ≡ answers
  pub others : (n : ℕ) → n ≤ c.last → (Contains own n → ⊥) → c.after n ≡ c.before n
  pub fresh : (n : ℕ) → Contains numbers n → IsFreshOr own c.last c.later n
  pub once : StandOnce numbers
  pub higher : c.last ≤ c.later

-- an entry was run again on these rows, and its calls settled
pub record IsAgain (setting : Setting) (c : SlotsChange) (rows : List Cell) (was : Entry) (again : Rerun) : Type 0 where
  pub rerun : IsRerun setting c.before rows was again.made
  pub settled : IsSettled c was.slots again.numbers again.made.trace.answers
  pub how : c.settles was again.made.trace again.answered again.numbers
  pub tells : again.answered ≡ is_new_answer was.made again.made

-- the entry with what came of it
abbrev pub noted : Rerun → Entry → Entry
noted again e = with_run again.made again.numbers (raised_if again.answered e.answer_version) (raised e.runs) e

-- what a step leaves: records that are runs, slots that are apart, one for each call, and where the registers were timely no stale entry up to the place
pub record Leaves (setting : Setting) (c : SlotsChange) (base : List Cell) (place : ℕ) (entries : List Entry) : Type 0 where
  pub runs : AllRuns setting entries
  pub apart : AreApart c.later entries
  pub own : All HasItsSlots entries
  pub current : c.timely → AllCurrent c.after base (take (place + 1) entries)
  pub before : (place ≤ length entries) × AllCurrent c.after base (take place entries)
