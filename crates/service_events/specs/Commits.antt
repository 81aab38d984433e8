-- What a live request is committed with, and which live requests a journal has answered.
use Rattle.std.specs.Prelude.{ℕ, ◌≡◌, Bool, true, false, List, [], ◌∷◌, ◌++◌, Some, Result, Ok, Err, IsSomeAnd, MatchOption, drop, filter, map, slice_get}
use Rattle.lang_core.specs.declared.ids.Origin.{Origin}
use Rattle.lang_core.specs.declared.inputs.Inputs.{Inputs}
use Rattle.lang_core.specs.declared.request.Request.{Request}
use Rattle.lang_core.specs.declared.request.Response.{Response}
use Rattle.lang_core.specs.declared.trace.Trace.{Trace}
use Rattle.lang_programs.specs.Numbered.{Numbered}
use Rattle.lang_programs.specs.Settings.{with_program}
use Rattle.lang_programs.specs.Under.{under_of}
use Rattle.handler_run.specs.Handlers.{run_of}
use Rattle.handler_run.specs.declared.state.Ran.TheVariants.{Done}
use Rattle.request_log.specs.declared.entry.Entry.{Entry}
use Rattle.local_repair.specs.Current.{IsCurrent, rows_after}
use Rattle.journal_rows.specs.Words.{asked}
use Rattle.journal_rows.specs.declared.callee.AnsweredRow.{AnsweredRow}
use Rattle.journal_rows.specs.declared.row.Row.{Row}
use Rattle.journal_rows.specs.declared.row.Row.TheVariants.{Answered}
use Rattle.flights.specs.declared.flight.Flight.{Flight}
use Rattle.service_events.specs.State.{Kept, answers, flight_of, base}
use Rattle.service_events.specs.Flying.{live_version}
use Rattle.service_events.specs.declared.answers.Arrived.{Arrived}
use Rattle.service_events.specs.declared.answers.Arrived.TheVariants.{Done as Committed, Call as Sends, Known}

-- ---- live answers

-- it answers a live request
abbrev pub is_live_row : Row → Bool
is_live_row (Answered a) = a.live
is_live_row row = false

-- the rows of a journal that answer live requests
abbrev pub live_rows : List Row → List Row
live_rows journal = filter is_live_row journal

-- the row that answers a live request of this origin, as the entry of this number
abbrev pub live_answer_of : ℕ → Origin → Response → AnsweredRow
live_answer_of id o response =
    record { id = id; origin = o; answer_version = 1; version = live_version o; response = response; live = true }

-- ---- a commit

-- the request of this origin, with these inputs and under this program, is the entry of this number behind those of before. It did what its run
-- under that program on the rows before it gives with the answers that its calls consume, and isn't stale. The row that asked of that entry has
-- its request, inputs and program's number, and the journal has one live answer more, which is of it and stands at this index
pub record IsCommitted (before : List Entry) (lives : List Row) (o : Origin) (q : Request) (i : Inputs) (p : Numbered) (t : Kept) (index id : ℕ) : Type 0 where
  pub entry : Entry
  pub trace : Trace
  pub last : t.entries ≡ before ++ entry ∷ []
  pub names : entry.id ≡ id
  pub origin : entry.origin ≡ o
  pub request : entry.request ≡ q
  pub inputs : entry.inputs ≡ i
  pub under : entry.under ≡ under_of p
  pub made : entry.made ≡ Some (record { alive = true; version = live_version o; request = q; trace = trace })
  pub ran : run_of (with_program p.program t.setting) q i (map (answers t) entry.slots) (rows_after (base t) (drop t.horizon before)) ≡ Done trace
  pub current : IsCurrent (answers t) (rows_after (base t) (drop t.horizon before)) entry
  pub asks : asked id t.journal ≡ Some (record { id = id; origin = o; request = q; inputs = i; program = p.number })
  pub there : slice_get t.journal index ≡ Some (Answered (live_answer_of id o trace.response))
  pub alone : live_rows t.journal ≡ lives ++ Answered (live_answer_of id o trace.response) ∷ []

-- the entries and the live answers are these
pub record AreSame (before : List Entry) (answered : List Row) (t : Kept) : Type 0 where
  pub entries : t.entries ≡ before
  pub lives : live_rows t.journal ≡ answered

-- the request of this origin, with these inputs and under this program, is the flight of this number
abbrev pub IsInFlight : Origin → Request → Inputs → Numbered → ℕ → Kept → Type 0
IsInFlight o q i p id t =
    IsSomeAnd (flight_of id t) (λ (f : Flight). (f.origin ≡ o) × (f.request ≡ q) × (f.inputs ≡ i) × (f.program ≡ p))

-- what an event of this live request leaves, by what it answers: it is committed; or it is a flight, and nothing is committed; or it is known, and nothing is
abbrev pub Leaves : List Entry → List Row → Origin → Request → Inputs → Numbered → Kept → Arrived → Type 0
Leaves before lives o q i p t (Committed index id answer) = IsCommitted before lives o q i p t index id
Leaves before lives o q i p t (Sends flight set) = AreSame before lives t × IsInFlight o q i p flight t
Leaves before lives o q i p t (Known a) = AreSame before lives t

-- where it is refused, nothing changed
abbrev pub Commits : {E : Type 0} → Origin → Request → Inputs → Numbered → Kept → Result Arrived E → Kept → Type 0
Commits o q i p s (Ok arrived) t = Leaves s.entries (live_rows s.journal) o q i p t arrived
Commits o q i p s (Err why) t = t ≡ s

-- the live request that the flight of this number is, under its program as it is by then; where there is no such flight, nothing changed
abbrev pub CommitsFlight : {E : Type 0} → ℕ → Kept → Result Arrived E → Kept → Type 0
CommitsFlight id s result t =
    MatchOption (flight_of id s) (t ≡ s) (λ (f : Flight). Commits f.origin f.request f.inputs f.program s result t)
