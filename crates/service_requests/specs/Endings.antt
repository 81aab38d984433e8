-- How an event of a live request ends.
use Rattle.std.specs.Prelude.{ℕ, true, false, ◌≡◌, ◌<◌, ◌≤◌, List, [], ◌∷◌, ◌++◌, Option, Some, None, IfSome, find, length, slice_get}
use Rattle.lang_core.specs.declared.ids.Origin.{Origin}
use Rattle.lang_core.specs.declared.ids.Origin.TheVariants.{Outside, Call as Called}
use Rattle.lang_core.specs.declared.trace.CallMade.{CallMade}
use Rattle.lang_core.specs.declared.trace.Trace.{Trace}
use Rattle.handler_run.specs.declared.state.Ran.{Ran}
use Rattle.request_log.specs.Entries.{has_id, find_call, IsNew}
use Rattle.journal_rows.specs.declared.row.Row.{Row}
use Rattle.journal_rows.specs.declared.row.Row.TheVariants.{Asked}
use Rattle.call_registers.specs.Registers.{next_number}
use Rattle.call_registers.specs.Replies.{IsAboveAll}
use Rattle.call_registers.specs.declared.reply.Reply.{Reply}
use Rattle.flights.specs.Moves.{calls_in}
use Rattle.flights.specs.Numbers.{without_flight, with_flight}
use Rattle.flights.specs.declared.flight.Flight.{Flight}
use Rattle.flights.specs.declared.flight.Move.{Move}
use Rattle.flights.specs.declared.flight.Move.TheVariants.{Commit, Name, Change}
use Rattle.service_events.specs.State.{Kept, After, after, me, next_id, unfolded}
use Rattle.service_events.specs.Calls.{noted, named}
use Rattle.service_events.specs.Flying.{before_answer, live_answer, took_rows, answer_to_caller, with_slot, with_change, change_rows, waits, untold, wanted_of}
use Rattle.service_events.specs.declared.answers.Arrived.{Arrived}
use Rattle.service_events.specs.declared.answers.Arrived.TheVariants.{Done, Call}
use Rattle.service_requests.specs.declared.endings.Ending.{Ending}
use Rattle.service_requests.specs.declared.endings.Ending.TheVariants.{Commits, Waits}
use Rattle.service_requests.specs.declared.endings.Step.{Step}
use Rattle.service_requests.specs.declared.endings.Step.TheVariants.{Ends, Goes}

abbrev pub listed : Option Reply → List Reply
listed None = []
listed (Some p) = p ∷ []

-- the reply of a live call, if it is one, which was given to it
abbrev pub reply_of : Kept → ℕ → Origin → Option Reply
reply_of s index Outside = None
reply_of s index (Called caller number) =
    Some (record {
      id = next_id s;
      caller = caller;
      number = number;
      version = 1;
      answer_version = 1;
      wanted = true;
      due = false;
      held = None;
      repair_who = me s;
      since = index;
    })

-- the rows of a flight's request: that it was asked, under which program, and that it was taken where it is a call
abbrev pub asked_rows : Kept → Flight → List Row
asked_rows s f =
    Asked (record { id = next_id s; origin = f.origin; request = f.request; inputs = f.inputs; program = f.program.number })
    ∷ took_rows f.origin f.request

-- a service with the rows of a commit
abbrev pub commit_noted : Kept → Flight → Trace → Kept
commit_noted s f t = noted (before_answer s f t ++ live_answer s f t ∷ []) s

-- ---- a new call: one more, or another one at a slot

-- the call that a flight names after a run that it goes on with so, if there is one
abbrev pub new_call : Move → Ran → Option CallMade
new_call Commit ran = None
new_call Name ran = wanted_of ran
new_call (Change slot) ran = slice_get (calls_in ran) slot

-- the slot of another call; none where it is one more
abbrev pub slot_of : Move → Option ℕ
slot_of (Change slot) = Some slot
slot_of move = None

-- one more is named, or the one at its slot is deleted first
abbrev pub call_rows : Kept → Flight → Option ℕ → CallMade → List Row
call_rows s f None call = named (next_number s.registers) call ∷ []
call_rows s f (Some slot) call = change_rows s f slot call

abbrev pub with_call : Option ℕ → ℕ → CallMade → Flight → Flight
with_call None number call f = with_slot number call f
with_call (Some slot) number call f = with_change slot number call f

abbrev pub named_service : Kept → Flight → Option ℕ → CallMade → Kept
named_service s f slot call = noted (call_rows s f slot call) s

abbrev pub named_flight : Kept → Flight → Option ℕ → CallMade → Flight
named_flight s f slot call = with_call slot (next_number s.registers) call f

-- it isn't sent, and consumes the tentative answer
abbrev pub unsent_service : Kept → Flight → Option ℕ → CallMade → Kept
unsent_service s f slot call = untold (next_number s.registers) (named_service s f slot call)

-- it is sent, and the flight waits for its answer
abbrev pub call_sent : Kept → Flight → Option ℕ → CallMade → After Arrived
call_sent s f slot call = waits (named_service s f slot call) (named_flight s f slot call) (next_number s.registers) call

-- ---- how it ends

-- what it leaves of a service, and answers
abbrev pub ends : Kept → Ending → After Arrived
ends s (Commits flight entry reply index) =
    after
    (record s {
      entries = s.entries ++ entry ∷ [];
      flights = without_flight flight s.flights;
      replies = s.replies ++ listed reply;
    })
    (Done index entry.id (answer_to_caller s entry.origin entry))
ends s (Waits flight set) = after (record s { flights = with_flight flight s.flights }) (Call flight.id set)

-- it ends so, or a flight goes on
abbrev pub follows : Kept → Step → (Kept → Flight → After Arrived) → After Arrived
follows s (Ends ending) again = ends s ending
follows s (Goes flight) again = again s flight

-- the next entry is new in the log, where it comes from this flight
pub record MayEnd (s : Kept) (f : Flight) : Type 0 where
  pub number : 1 ≤ f.id
  pub id : find (has_id (next_id s)) s.entries ≡ None
  pub origin : find_call f.origin s.entries ≡ None
  pub few : length (unfolded s) < 100000
  pub replies : IsAboveAll (next_id s) s.replies

-- what it needs of a service
abbrev pub CanEnd : Kept → Ending → Type 0
CanEnd s (Commits flight entry reply index) =
    IsNew entry s.entries × (length (unfolded s) < 100000) × IfSome reply (λ p. IsAboveAll p.id s.replies)
CanEnd s (Waits flight set) = 1 ≤ flight.id

abbrev pub CanStep : Kept → Step → Type 0
CanStep s (Ends ending) = CanEnd s ending
CanStep s (Goes flight) = MayEnd s flight
