-- A repair step: what it may answer, and what it leaves.
use Rattle.std.specs.Prelude.{ℕ, zero, suc, ◌≡◌, ◌+◌, ◌<◌, ◌≤◌, ◌≢◌, ◌⊎◌, Bool, true, false, not, ◌&&◌, List, [], ◌∷◌, ◌++◌, Option, Some, None, if◌then◌else◌, map, take, length, min, nat_eq, option_map, slice_get, slice_set, slice_index_or, Contains, All, AllPairs}
use Rattle.lang_base.specs.Equal.{equal}
use Rattle.lang_core.specs.Traces.{dead_trace}
use Rattle.lang_core.specs.contracts.request.Response as response
use Rattle.lang_core.specs.contracts.trace.CallMade as call_made
use Rattle.lang_core.specs.declared.cells.Cell.{Cell}
use Rattle.lang_core.specs.declared.request.Response.{Response}
use Rattle.lang_core.specs.declared.setting.Setting.{Setting}
use Rattle.lang_core.specs.declared.trace.CallMade.{CallMade}
use Rattle.lang_core.specs.declared.trace.Trace.{Trace}
use Rattle.execution.specs.HandedOn.{run_of}
use Rattle.execution.specs.HandedOn.{Ran as Outcome}
use Rattle.execution.specs.HandedOn.{Done, Wants}
use Rattle.request_log.specs.Entries.{is_alive}
use Rattle.request_log.specs.HandedOn.{settled}
use Rattle.request_log.specs.Records.{record_in, recorded_calls}
use Rattle.request_log.specs.declared.entry.Entry.{Entry}
use Rattle.request_log.specs.declared.entry.Made.{Made}
use Rattle.local_repair.specs.Current.{Consumed, AllCurrent, IsFirstStale, rows_after}
use Rattle.local_repair.specs.Programs.{setting_of}
use Rattle.local_repair.specs.Registers.{SlotsChange}
use Rattle.local_repair.specs.declared.stepped.Stepped.{Stepped}
use Rattle.local_repair.specs.declared.stepped.Stepped.TheVariants.{Idle, Ran}

-- the answer of a call that has none yet
abbrev pub tentative : Response
tentative = record { status = 504; body = [] }

-- a register's answer, or the tentative one
abbrev pub answer_or_tentative : Option Response → Response
answer_or_tentative None = tentative
answer_or_tentative (Some r) = r

-- the calls of an entry's last run, none where it never ran
abbrev pub calls_of_made : Option Made → List CallMade
calls_of_made made = recorded_calls (option_map record_in made)

abbrev pub same_call : CallMade → CallMade → Bool
same_call a b = equal call_made.the_row.coded a b

-- what the slot consumes where its old call is this one, else the tentative answer
abbrev pub consumed_if_same_call : Consumed → Option CallMade → Option ℕ → CallMade → Response
consumed_if_same_call consumed (Some old) (Some n) call = if same_call old call then consumed n else tentative
consumed_if_same_call consumed (Some old) None call = tentative
consumed_if_same_call consumed None n call = tentative

-- the answer of the call at a place, where these were the old calls and these are their slots
abbrev pub answer_at : Consumed → List CallMade → List ℕ → ℕ → CallMade → Response
answer_at consumed old slots place call = consumed_if_same_call consumed (slice_get old place) (slice_get slots place) call

-- the answers of calls, in order
abbrev pub answers_for : Consumed → List CallMade → List ℕ → List CallMade → List Response
answers_for consumed old slots [] = []
answers_for consumed (o ∷ os) (n ∷ ns) (call ∷ calls) =
    (if same_call o call then consumed n else tentative) ∷ answers_for consumed os ns calls
answers_for consumed [] slots (call ∷ calls) = tentative ∷ answers_for consumed [] slots calls
answers_for consumed (o ∷ os) [] (call ∷ calls) = tentative ∷ answers_for consumed os [] calls

-- the trace of a run that ended; one that wants the answer of a call goes on from there
abbrev pub ended_or : Outcome → (CallMade → Trace) → Trace
ended_or (Done t) on = t
ended_or (Wants slot calls call) on = on call

-- the trace of a run with these answers so far, whose further calls are answered so by their places, in so many turns at most
unfoldable pub trace_through : ℕ → (List Response → Outcome) → (ℕ → CallMade → Response) → List Response → Trace
trace_through zero run answer xs = dead_trace
trace_through (suc turns) run answer xs =
    ended_or (run xs) (λ call. trace_through turns run answer (xs ++ answer (length xs) call ∷ []))

-- the trace of an entry that runs again under its program on these rows from its start, its calls answered as their slots consume; a run has 16 calls at most
abbrev pub trace_again : Setting → Consumed → List Cell → Entry → Trace
trace_again setting consumed rows e =
    if is_alive e
    then trace_through 17 (λ xs. run_of (setting_of setting e) e.request e.inputs xs rows) (answer_at consumed (calls_of_made e.made) e.slots) []
    else dead_trace

-- a new record of an entry on these rows: its run under its program, whose calls get the old answers where they are the old calls, or the dead trace
pub record IsRerun (setting : Setting) (consumed : Consumed) (rows : List Cell) (e : Entry) (m : Made) : Type 0 where
  pub alive : m.alive ≡ is_alive e
  pub version : m.version ≡ e.version
  pub request : m.request ≡ e.request
  pub live : is_alive e ≡ true → run_of (setting_of setting e) e.request e.inputs m.trace.answers rows ≡ Done m.trace
  pub dead : is_alive e ≡ false → m.trace ≡ dead_trace
  pub answers : m.trace.answers ≡ answers_for consumed (calls_of_made e.made) e.slots m.trace.calls
  pub trace : m.trace ≡ trace_again setting consumed rows e

-- whether a record answers something else than the one before, or is the first
abbrev pub is_new_answer : Option Made → Made → Bool
is_new_answer None m = true
is_new_answer (Some old) m =
    not (nat_eq old.version m.version && equal response.the_row.coded old.trace.response m.trace.response)

-- one more, up to the greatest number of 64 bits
abbrev pub raised : ℕ → ℕ
raised n = min (n + 1) 18446744073709551615

abbrev pub raised_if : Bool → ℕ → ℕ
raised_if b n = if b then raised n else n

-- the entry with a new record, made under its program, and its slots, run once more
abbrev pub remade : Entry → Made → List ℕ → Entry
remade e m slots =
    record e { under = settled e.under; made = Some m; slots = slots; answer_version = raised_if (is_new_answer e.made m) e.answer_version; runs = raised e.runs }

-- an entry made anew on these rows, with slots that the registers settled; where they were timely, the slots consume what its run consumed
pub record IsRemade (setting : Setting) (c : SlotsChange) (rows : List Cell) (e e' : Entry) : Type 0 where
  pub made : Made
  pub rerun : IsRerun setting c.before rows e made
  pub slots : List ℕ
  pub settled : c.settles e made.trace (is_new_answer e.made made) slots
  pub count : length slots ≡ length made.trace.answers
  pub consumes : c.timely → map c.after slots ≡ made.trace.answers
  pub is : e' ≡ remade e made slots

-- the first stale entry ran, at this place, and no other changed; where the registers were timely, none up to it is stale any more, so that the next one stands later
pub record RanFirst (setting : Setting) (c : SlotsChange) (base : List Cell) (before : List Entry) (id : ℕ) (answered : Bool) (after : List Entry) : Type 0 where
  pub place : ℕ
  pub first : IsFirstStale c.before base before place
  pub was : Entry
  pub there : (d : Entry) → slice_index_or before place d ≡ was
  pub entry : Entry
  pub remade : IsRemade setting c (rows_after base (take place before)) was entry
  pub names : id ≡ was.id
  pub tells : answered ≡ is_new_answer was.made remade.made
  pub rest : after ≡ slice_set before place entry
  pub current : c.timely → AllCurrent c.after base (take (place + 1) after)
  pub later : c.timely → (next : ℕ) → IsFirstStale c.after base after next → place < next

-- what a step may answer on these entries, where these are the rows before the first, and what it leaves
abbrev pub StepsTo : Setting → SlotsChange → List Cell → List Entry → Stepped → List Entry → Type 0
StepsTo setting c base before Idle after = AllCurrent c.before base before × (after ≡ before)
StepsTo setting c base before (Ran id answered) after = RanFirst setting c base before id answered after

-- a number is one of these, or it was given since
abbrev pub IsFreshOr : List ℕ → ℕ → ℕ → ℕ → Type 0
IsFreshOr slots before after n = Contains slots n ⊎ ((before < n) × (n ≤ after))

-- no number stands twice
abbrev pub StandOnce : List ℕ → Type 0
StandOnce numbers = AllPairs (λ m n. m ≢ n) numbers

-- each slot was given, and stands in one entry alone, and there once
pub record AreApart (last : ℕ) (entries : List Entry) : Type 0 where
  pub apart : AllPairs (λ e f. (n : ℕ) → Contains e.slots n → Contains f.slots n → ⊥) entries
  pub once : All (λ e. StandOnce e.slots) entries
  pub given : All (λ e. (n : ℕ) → Contains e.slots n → n ≤ last) entries
