-- Runs one behind another: each has what the one before wanted, until one wants nothing more or waits. No bound stands here on how many they are.
use Rattle.std.specs.Prelude.{ℕ, ◌≡◌, Bool, true, false, List, [], ◌∷◌, ◌++◌, Option, Some, None, nat_le, slice_get}
use Rattle.lang_core.specs.Traces.{dead_trace}
use Rattle.lang_core.specs.declared.cells.Cell.{Cell}
use Rattle.lang_core.specs.declared.request.Response.{Response}
use Rattle.lang_core.specs.declared.trace.CallMade.{CallMade}
use Rattle.lang_core.specs.declared.trace.Trace.{Trace}
use Rattle.handler_run.specs.Handlers.{run_of}
use Rattle.handler_run.specs.declared.state.Ran.{Ran}
use Rattle.handler_run.specs.declared.state.Ran.TheVariants.{Done, Wants}
use Rattle.request_log.specs.Entries.{is_alive}
use Rattle.request_log.specs.declared.entry.Entry.{Entry}
use Rattle.request_log.specs.declared.entry.Made.{Made}
use Rattle.local_repair.specs.Programs.{setting_of}
use Rattle.local_repair.specs.Steps.{answer_at, calls_of_made}
use Rattle.local_repair.specs.declared.stepped.Stepped.{Stepped}
use Rattle.local_repair.specs.declared.stepped.Stepped.TheVariants.{Idle}
use Rattle.call_registers.specs.Registers.{next_number}
use Rattle.flights.specs.Moves.{calls_in, next_move}
use Rattle.flights.specs.declared.flight.Flight.{Flight}
use Rattle.flights.specs.declared.flight.Move.{Move}
use Rattle.flights.specs.declared.flight.Move.TheVariants.{Commit, Name, Change}
use Rattle.service_events.specs.State.{Kept, After, after, answers, base, unfolded}
use Rattle.service_events.specs.Calls.{noted, named}
use Rattle.service_events.specs.Flying.{change_rows, changed_unsent, committed, flight_run, named_unsent, waits, wanted_of, with_change, with_slot}
use Rattle.service_events.specs.Steps.{Stale, stale_in, stepped}
use Rattle.service_events.specs.declared.answers.Arrived.{Arrived}
use Rattle.service_events.specs.declared.answers.Arrived.TheVariants.{Known}

-- ---- a live request

-- its run makes the calls that it has and ended; it is committed
abbrev pub Ends : Kept → Flight → Ran → Move → After Arrived → Type 0
Ends s f ran Commit a = (t : Trace) × (ran ≡ Done t) × (a ≡ committed s f t)
Ends s f ran move a = ⊥

-- its run makes this call otherwise, or wants it: it gets another number, isn't sent, and what follows goes on from there
abbrev pub TakesUnsent : Kept → Flight → Ran → Move → CallMade → (Kept → Flight → Type 0) → Type 0
TakesUnsent s f ran Commit call Then = ⊥
TakesUnsent s f ran Name call Then = (wanted_of ran ≡ Some call) × Then (named_unsent s call) (with_slot (next_number s.registers) call f)
TakesUnsent s f ran (Change slot) call Then =
    (slice_get (calls_in ran) slot ≡ Some call) × Then (changed_unsent s f slot call) (with_change slot (next_number s.registers) call f)

-- a flight that sends no calls any more runs, takes these calls one behind another and runs again after each, and ends
abbrev pub Completes : List CallMade → Kept → Flight → After Arrived → Type 0
Completes [] s f a = Ends s f (flight_run s f) (next_move f (flight_run s f)) a
Completes (call ∷ calls) s f a =
    TakesUnsent s f (flight_run s f) (next_move f (flight_run s f)) call (λ s' f'. Completes calls s' f' a)

-- up to the third change the fresh call is sent, and from the fourth on none is
abbrev pub Changes : Bool → Kept → Flight → ℕ → CallMade → After Arrived → Type 0
Changes true s f slot call a =
    (calls : List CallMade) × Completes calls (changed_unsent s f slot call) (with_change slot (next_number s.registers) call f) a
Changes false s f slot call a =
    a ≡ waits (noted (change_rows s f slot call) s) (with_change slot (next_number s.registers) call f) (next_number s.registers) call

abbrev pub Moves : Kept → Flight → Ran → Move → After Arrived → Type 0
Moves s f ran Commit a = Ends s f ran Commit a
Moves s f ran Name a =
    (call : CallMade) × (wanted_of ran ≡ Some call)
    × (a ≡ waits (noted (named (next_number s.registers) call ∷ []) s) (with_slot (next_number s.registers) call f) (next_number s.registers) call)
Moves s f ran (Change slot) a =
    (call : CallMade) × (slice_get (calls_in ran) slot ≡ Some call) × Changes (nat_le 3 f.changes) s f slot call a

-- a flight runs: it is committed, or it waits for a call that is named or changed, or it is completed without one
abbrev pub GoesOn : Kept → Flight → After Arrived → Type 0
GoesOn s f a = Moves s f (flight_run s f) (next_move f (flight_run s f)) a

-- it does so in one way alone
pub record GoesOnTo (s : Kept) (f : Flight) (a : After Arrived) : Type 0 where
  pub goes : GoesOn s f a
  pub alone : (other : After Arrived) → GoesOn s f other → other ≡ a

-- a request that arrives and isn't known does so
abbrev pub Begins : Kept → Flight → Arrived → Kept → Type 0
Begins s f (Known a) s' = s' ≡ s
Begins s f arrived s' = GoesOnTo s f (after s' arrived)

-- ---- an entry that runs again

-- a run either ended, or wants the answer of a call, gets it, and the next run has it too
abbrev pub TakesAnswer : Ran → Response → (ℕ → CallMade → Response) → Type 0 → Type 0
TakesAnswer (Done t) r answer Then = ⊥
TakesAnswer (Wants slot calls call) r answer Then = (r ≡ answer slot call) × Then

-- with these answers so far it runs, takes these others one behind another and runs again after each, and ends with this trace
abbrev pub RunsThrough : (List Response → Ran) → (ℕ → CallMade → Response) → List Response → List Response → Trace → Type 0
RunsThrough run answer given [] t = run given ≡ Done t
RunsThrough run answer given (r ∷ rs) t = TakesAnswer (run given) r answer (RunsThrough run answer (given ++ r ∷ []) rs t)

-- one that survives runs under its program from its start, and a call that it makes as before gets the answer that its old number consumes
abbrev pub RunsAgain : Bool → Kept → List Cell → Entry → Trace → Type 0
RunsAgain true s rows e t =
    (given : List Response)
    × RunsThrough (λ xs. run_of (setting_of s.setting e) e.request e.inputs xs rows) (answer_at (answers s) (calls_of_made e.made) e.slots) [] given t
RunsAgain false s rows e t = t ≡ dead_trace

-- the record of the entry on these rows
pub record IsRecord (s : Kept) (rows : List Cell) (e : Entry) (m : Made) : Type 0 where
  pub alive : m.alive ≡ is_alive e
  pub version : m.version ≡ e.version
  pub request : m.request ≡ e.request
  pub ran : RunsAgain (is_alive e) s rows e m.trace

-- a step is idle where no entry is stale; else the first stale one gets the one record that its run makes
pub record RanAgain (s : Kept) (x : Stale) (answer : Stepped) (s' : Kept) : Type 0 where
  pub made : Made
  pub is : IsRecord s x.rows x.entry made
  pub alone : (other : Made) → IsRecord s x.rows x.entry other → other ≡ made
  pub leaves : after s' answer ≡ stepped s x.entry made

abbrev pub StepsBy : Kept → Option Stale → Stepped → Kept → Type 0
StepsBy s None answer s' = (answer ≡ Idle) × (s' ≡ s)
StepsBy s (Some x) answer s' = RanAgain s x answer s'

abbrev pub IsStep : Kept → Stepped → Kept → Type 0
IsStep s answer s' = StepsBy s (stale_in (answers s) (base s) (unfolded s)) answer s'
