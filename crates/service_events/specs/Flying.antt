-- What a live request does after a run: it is committed, or it names or changes a call and waits.
use Rattle.std.specs.Prelude.{ℕ, suc, zero, ◌+◌, true, false, List, [], ◌∷◌, ◌++◌, Option, Some, None, if◌then◌else◌, nat_le, length, map, option_map, take, drop, slice_set, slice_get}
use Rattle.lang_core.specs.Traces.{dead_trace}
use Rattle.lang_core.specs.declared.ids.Origin.{Origin}
use Rattle.lang_core.specs.declared.ids.Origin.TheVariants.{Outside, Call}
use Rattle.lang_core.specs.declared.request.Request.{Request}
use Rattle.lang_core.specs.declared.trace.CallMade.{CallMade}
use Rattle.lang_core.specs.declared.trace.Trace.{Trace}
use Rattle.lang_programs.specs.Settings.{with_program}
use Rattle.lang_programs.specs.Under.{under_of}
use Rattle.handler_run.specs.Handlers.{run_of}
use Rattle.handler_run.specs.declared.state.Ran.{Ran}
use Rattle.handler_run.specs.declared.state.Ran.TheVariants.{Done, Wants}
use Rattle.request_log.specs.Records.{Record, record_of}
use Rattle.request_log.specs.declared.entry.Entry.{Entry}
use Rattle.local_repair.specs.Alone.{trace_or_dead}
use Rattle.local_repair.specs.Current.{rows_after}
use Rattle.repair_messages.specs.declared.messages.AnswerMessage.{AnswerMessage}
use Rattle.repair_messages.specs.declared.messages.SetMessage.{SetMessage}
use Rattle.journal_rows.specs.declared.callee.TookHow.TheVariants.{Live}
use Rattle.journal_rows.specs.declared.row.Row.{Row}
use Rattle.journal_rows.specs.declared.row.Row.TheVariants.{Asked, Took, Answered}
use Rattle.call_registers.specs.Registers.{next_number, at_number, with_cause}
use Rattle.call_registers.specs.declared.register.Why.TheVariants.{Changes}
use Rattle.call_registers.specs.declared.reply.Reply.{Reply}
use Rattle.flights.specs.Moves.{calls_in, next_move}
pub use Rattle.flights.specs.Numbers.{awaited}
use Rattle.flights.specs.declared.flight.Flight.{Flight}
use Rattle.flights.specs.declared.flight.Move.{Move}
use Rattle.flights.specs.declared.flight.Move.TheVariants.{Commit, Name, Change}
use Rattle.service_events.specs.State.{Kept, After, after, me, answers, next_id, without_flight, with_flight, base, unfolded}
use Rattle.service_events.specs.Calls.{noted, named, deleted, all_deleted}
use Rattle.service_events.specs.declared.answers.Arrived.{Arrived}
use Rattle.service_events.specs.declared.answers.Arrived.TheVariants.{Done as Committed, Call as Sends}

-- its run under its program on the rows at the end of the log, with the answers that its calls consume now
abbrev pub flight_run : Kept → Flight → Ran
flight_run s f =
    run_of (with_program f.program.program s.setting) f.request f.inputs (map (answers s) f.numbers) (rows_after (base s) (unfolded s))

-- ---- the commit

-- the version of the call that a live request answers; 0 of one from outside
abbrev pub live_version : Origin → ℕ
live_version Outside = 0
live_version (Call caller number) = 1

-- a live call is taken with its commit
abbrev pub took_rows : Origin → Request → List Row
took_rows Outside q = []
took_rows (Call caller number) q =
    Took (record { caller = caller; number = number; version = 1; desired = Some q; how = Live; who = q.who; rule = 0 }) ∷ []

-- the calls beyond those that the last run made are deleted
abbrev pub surplus_rows : Kept → Flight → Trace → List Row
surplus_rows s f t = all_deleted s.registers (drop (length t.calls) f.numbers) (drop (length t.calls) f.calls)

-- what stands before the answer
abbrev pub before_answer : Kept → Flight → Trace → List Row
before_answer s f t =
    surplus_rows s f t
    ++ (Asked (record { id = next_id s; origin = f.origin; request = f.request; inputs = f.inputs; program = f.program.number })
    ∷ took_rows f.origin f.request)

abbrev pub live_answer : Kept → Flight → Trace → Row
live_answer s f t =
    Answered (record {
      id = next_id s;
      origin = f.origin;
      answer_version = 1;
      version = live_version f.origin;
      response = t.response;
      live = true;
    })

abbrev pub committed_entry : Kept → Flight → Trace → Entry
committed_entry s f t =
    record {
      id = next_id s;
      origin = f.origin;
      version = live_version f.origin;
      request = f.request;
      wanted = true;
      struck = false;
      inputs = f.inputs;
      under = under_of f.program;
      made = Some (record { alive = true; version = live_version f.origin; request = f.request; trace = t });
      slots = take (length t.calls) f.numbers;
      answer_version = 1;
      runs = 1;
    }

-- the reply of a live call, which was given to it
abbrev pub live_replies : Kept → ℕ → Origin → List Reply
live_replies s index Outside = []
live_replies s index (Call caller number) =
    record {
      id = next_id s;
      caller = caller;
      number = number;
      version = 1;
      answer_version = 1;
      wanted = true;
      due = false;
      held = None;
      repair_who = me s;
      since = index;
    } ∷ []

-- the index of its answer in the journal
abbrev pub answer_index : Kept → Flight → Trace → ℕ
answer_index s f t = length s.journal + length (before_answer s f t)

-- the last answer of an entry, to the call that it comes from
abbrev pub last_answer : Kept → List ℕ → ℕ → Entry → Record → AnswerMessage
last_answer s caller number e r =
    record {
      caller = caller;
      callee = me s;
      id = e.id;
      number = number;
      answer_version = e.answer_version;
      version = r.version;
      response = r.response;
      who = me s;
    }

-- the answer of an entry that was made, where it comes from a call
abbrev pub answer_to_caller : Kept → Origin → Entry → Option AnswerMessage
answer_to_caller s Outside e = None
answer_to_caller s (Call caller number) e = option_map (last_answer s caller number e) (record_of e)

-- the flight did this, and is the last entry of the log
abbrev pub committed : Kept → Flight → Trace → After Arrived
committed s f t =
    after
    (noted (before_answer s f t ++ live_answer s f t ∷ [])
    (record s {
      entries = s.entries ++ committed_entry s f t ∷ [];
      flights = without_flight f.id s.flights;
      replies = s.replies ++ live_replies s (answer_index s f t) f.origin;
    }))
    (Committed (answer_index s f t) (next_id s) (answer_to_caller s f.origin (committed_entry s f t)))

-- ---- a call is named or changed

-- a live call: its first version, which names no neighbours
abbrev pub live_call : Kept → ℕ → CallMade → SetMessage
live_call s number call =
    record {
      caller = me s;
      dest = call.dest;
      number = number;
      version = 1;
      desired = Some call.request;
      before = None;
      after = None;
      who = call.request.who;
    }

-- one call more, with this number
abbrev pub with_slot : ℕ → CallMade → Flight → Flight
with_slot number call f = record f { calls = f.calls ++ call ∷ []; numbers = f.numbers ++ number ∷ [] }

-- another call at a slot, with this number
abbrev pub with_change : ℕ → ℕ → CallMade → Flight → Flight
with_change slot number call f =
    record f {
      calls = slice_set f.calls slot call;
      numbers = slice_set f.numbers slot number;
      changes = f.changes + 1;
    }

-- the row of a deletion, where there is a call
abbrev pub deletion : Kept → Option ℕ → Option CallMade → List Row
deletion s (Some number) (Some call) = deleted s.registers number call ∷ []
deletion s (Some number) None = []
deletion s None call = []

-- its old call at the slot is deleted, and this one is named
abbrev pub change_rows : Kept → Flight → ℕ → CallMade → List Row
change_rows s f slot call =
    deletion s (slice_get f.numbers slot) (slice_get f.calls slot) ++ named (next_number s.registers) call ∷ []

-- the flight waits for the call of this number
abbrev pub waits : Kept → Flight → ℕ → CallMade → After Arrived
waits s f number call =
    after (record s { flights = with_flight f s.flights }) (Sends f.id (live_call s number call))

-- the call that a run makes at a slot; there is one where it changes that slot, and the other case never comes
abbrev pub call_or_none : Option CallMade → (CallMade → After Arrived) → After Arrived → After Arrived
call_or_none None go never = never
call_or_none (Some call) go never = go call

abbrev pub wanted_of : Ran → Option CallMade
wanted_of (Done t) = None
wanted_of (Wants slot calls call) = Some call

-- ---- after the fourth change no call is sent any more

abbrev pub untold : ℕ → Kept → Kept
untold number s = record s { registers = at_number number (with_cause Changes) s.registers }

-- a call is named, isn't sent, and consumes the tentative answer
abbrev pub named_unsent : Kept → CallMade → Kept
named_unsent s call = untold (next_number s.registers) (noted (named (next_number s.registers) call ∷ []) s)

abbrev pub changed_unsent : Kept → Flight → ℕ → CallMade → Kept
changed_unsent s f slot call = untold (next_number s.registers) (noted (change_rows s f slot call) s)

-- after a run, where `again` is what follows the next one
abbrev pub completing : Kept → Flight → Ran → Move → (Kept → Flight → After Arrived) → After Arrived
completing s f ran Commit again = committed s f (trace_or_dead ran)
completing s f ran Name again =
    call_or_none (wanted_of ran) (λ call. again (named_unsent s call) (with_slot (next_number s.registers) call f))
    (committed s f (trace_or_dead ran))
completing s f ran (Change slot) again =
    call_or_none (slice_get (calls_in ran) slot)
    (λ call. again (changed_unsent s f slot call) (with_change slot (next_number s.registers) call f))
    (committed s f (trace_or_dead ran))

-- the flight is completed in at most so many runs: after each, the first slot whose call is another one or not there yet stands further on, and there are 16
abbrev pub completed : ℕ → Kept → Flight → After Arrived
completed zero s f = committed s f dead_trace
completed (suc runs) s f = completing s f (flight_run s f) (next_move f (flight_run s f)) (completed runs)

-- ---- what follows an answer, a failure or an arrival

-- from the fourth change on it is completed; up to the third the fresh call is sent
abbrev pub changed : Kept → Flight → ℕ → CallMade → After Arrived
changed s f slot call =
    if nat_le 3 f.changes
    then completed 17 (changed_unsent s f slot call) (with_change slot (next_number s.registers) call f)
    else waits (noted (change_rows s f slot call) s) (with_change slot (next_number s.registers) call f) (next_number s.registers) call

abbrev pub moved : Kept → Flight → Ran → Move → After Arrived
moved s f ran Commit = committed s f (trace_or_dead ran)
moved s f ran Name =
    call_or_none (wanted_of ran)
    (λ call. waits (noted (named (next_number s.registers) call ∷ []) s) (with_slot (next_number s.registers) call f) (next_number s.registers) call)
    (committed s f (trace_or_dead ran))
moved s f ran (Change slot) =
    call_or_none (slice_get (calls_in ran) slot) (λ call. changed s f slot call) (committed s f (trace_or_dead ran))

unfoldable pub goes_on : Kept → Flight → After Arrived
goes_on s f = moved s f (flight_run s f) (next_move f (flight_run s f))
