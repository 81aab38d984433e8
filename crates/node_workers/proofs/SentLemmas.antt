-- Whose calls a service sends, and whose answers it gives to calls that it knows.
use Rattle.std.proofs.Common.{ℕ, zero, suc, Bool, true, false, List, [], ◌∷◌, Option, Some, None, Result, Err, nat_eq, nat_le, slice_get, refl, if◌then◌else◌}
use Rattle.lang_core.specs.declared.ids.Origin.{Origin}
use Rattle.lang_core.specs.declared.ids.Origin.TheVariants.{Outside, Call}
use Rattle.lang_core.specs.declared.inputs.Inputs.{Inputs}
use Rattle.lang_core.specs.declared.request.Request.{Request}
use Rattle.lang_core.specs.declared.trace.CallMade.{CallMade}
use Rattle.handler_run.specs.declared.state.Ran.{Ran}
use Rattle.request_log.specs.Entries.{find_call}
use Rattle.request_log.specs.Records.{Record, record_of}
use Rattle.request_log.specs.declared.entry.Entry.{Entry}
use Rattle.local_repair.specs.Alone.{trace_or_dead}
use Rattle.repair_messages.specs.declared.messages.AnswerMessage.{AnswerMessage}
use Rattle.journal_rows.specs.Words.{last_taken}
use Rattle.journal_rows.specs.declared.callee.TookRow.{TookRow}
use Rattle.call_registers.specs.Registers.{next_number}
use Rattle.call_registers.specs.declared.register.Why.{Why}
use Rattle.flights.specs.Moves.{calls_in, next_move}
use Rattle.flights.specs.declared.flight.Flight.{Flight}
use Rattle.flights.specs.declared.flight.Move.{Move}
use Rattle.flights.specs.declared.flight.Move.TheVariants.{Commit, Name, Change}
use Rattle.service_events.specs.Arriving.{accepted, admitted, answered_flight, arrive_event, arrives, arrives_or_known, by_version, call_answered_event, call_failed_event, failed_flight, is_for, known_by, live_answer_rows, new_flight, told, unless_gone}
use Rattle.service_events.specs.Calls.{named, noted}
use Rattle.service_events.specs.Flying.{awaited, call_or_none, change_rows, changed, changed_unsent, committed, completed, completing, flight_run, goes_on, moved, named_unsent, waits, wanted_of, with_change, with_slot}
use Rattle.service_events.specs.State.{After, Kept, after, flight_of, is_crowded, is_heavy, is_in_flight, me, or_else}
use Rattle.service_events.specs.declared.answers.Arrived.{Arrived}
use Rattle.service_events.specs.declared.answers.Arrived.TheVariants as arrived
use Rattle.service_events.specs.declared.refusals.ArriveRefused.{ArriveRefused}
use Rattle.service_events.specs.declared.refusals.ArriveRefused.TheVariants.{NotYet}
use Rattle.service_events.specs.declared.refusals.CallRefused.{CallRefused}
use Rattle.service_events.specs.declared.refusals.CallRefused.TheVariants.{NoFlight}
use Rattle.node_workers.specs.Flying.{ArrivesAs, IfAccepted, SentBy}

-- ---- what a flight sends

call_sent : (name : List ℕ) (o : Option CallMade) (go : CallMade → After Arrived) (never : After Arrived) → ((c : CallMade) → SentBy name (go c).answer)
    → SentBy name never.answer → SentBy name (call_or_none o go never).answer
call_sent name None go never goes stops = stops
call_sent name (Some c) go never goes stops = goes c

completing_sent : (name : List ℕ) (s : Kept) (f : Flight) (ran : Ran) (move : Move) (again : Kept → Flight → After Arrived)
    → ((t : Kept) (g : Flight) → SentBy name (again t g).answer) → SentBy name (completing s f ran move again).answer
completing_sent name s f ran Commit again so = tt
completing_sent name s f ran Name again so =
    call_sent name (wanted_of ran) (λ call. again (named_unsent s call) (with_slot (next_number s.registers) call f)) (committed s f (trace_or_dead ran))
    (λ call. so (named_unsent s call) (with_slot (next_number s.registers) call f)) tt
completing_sent name s f ran (Change slot) again so =
    call_sent name (slice_get (calls_in ran) slot) (λ call. again (changed_unsent s f slot call) (with_change slot (next_number s.registers) call f))
    (committed s f (trace_or_dead ran)) (λ call. so (changed_unsent s f slot call) (with_change slot (next_number s.registers) call f)) tt

completed_sent : (name : List ℕ) (runs : ℕ) (s : Kept) (f : Flight) → SentBy name (completed runs s f).answer
completed_sent name zero s f = tt
completed_sent name (suc runs) s f =
    completing_sent name s f (flight_run s f) (next_move f (flight_run s f)) (completed runs) (completed_sent name runs)

if_sent : (name : List ℕ) (b : Bool) (x y : After Arrived) → SentBy name x.answer → SentBy name y.answer → SentBy name (if b then x else y).answer
if_sent name true x y h k = h
if_sent name false x y h k = k

changed_sent : (s : Kept) (f : Flight) (slot : ℕ) (call : CallMade) → SentBy (me s) (changed s f slot call).answer
changed_sent s f slot call =
    if_sent (me s) (nat_le 3 f.changes) (completed 17 (changed_unsent s f slot call) (with_change slot (next_number s.registers) call f))
    (waits (noted (change_rows s f slot call) s) (with_change slot (next_number s.registers) call f) (next_number s.registers) call)
    (completed_sent (me s) 17 (changed_unsent s f slot call) (with_change slot (next_number s.registers) call f)) refl

moved_sent : (s : Kept) (f : Flight) (ran : Ran) (move : Move) → SentBy (me s) (moved s f ran move).answer
moved_sent s f ran Commit = tt
moved_sent s f ran Name =
    call_sent (me s) (wanted_of ran)
    (λ call. waits (noted (named (next_number s.registers) call ∷ []) s) (with_slot (next_number s.registers) call f) (next_number s.registers) call)
    (committed s f (trace_or_dead ran)) (λ call. refl) tt
moved_sent s f ran (Change slot) =
    call_sent (me s) (slice_get (calls_in ran) slot) (λ call. changed s f slot call) (committed s f (trace_or_dead ran)) (changed_sent s f slot) tt

goes_on_sent : (s : Kept) (f : Flight) → SentBy (me s) (goes_on s f).answer
unfolding goes_on
goes_on_sent s f = moved_sent s f (flight_run s f) (next_move f (flight_run s f))

-- ---- what follows an answer or a failure

answered_by : (s : Kept) (id : ℕ) (a : AnswerMessage) (f : Flight) (b : Bool)
    → IfAccepted (SentBy (me s)) (if b then accepted {E = CallRefused} (goes_on (noted (live_answer_rows s a) s) f) else after s (Err (NoFlight id))).answer
answered_by s id a f true = goes_on_sent (noted (live_answer_rows s a) s) f
answered_by s id a f false = tt

answered_if : (s : Kept) (id : ℕ) (a : AnswerMessage) (o : Option Flight) → IfAccepted (SentBy (me s)) (answered_flight s id a o).answer
answered_if s id a None = tt
answered_if s id a (Some f) = answered_by s id a f (is_for s a f)

pub answered_sent : (s : Kept) (id : ℕ) (a : AnswerMessage) → IfAccepted (SentBy (me s)) (call_answered_event s id a).answer
answered_sent s id a = answered_if s id a (flight_of id s)

failed_by : (s : Kept) (id number : ℕ) (why : Why) (f : Flight) (b : Bool)
    → IfAccepted (SentBy (me s)) (if b then accepted {E = CallRefused} (goes_on (told number why s) f) else after s (Err (NoFlight id))).answer
failed_by s id number why f true = goes_on_sent (told number why s) f
failed_by s id number why f false = tt

failed_if : (s : Kept) (id number : ℕ) (why : Why) (o : Option Flight) → IfAccepted (SentBy (me s)) (failed_flight s id number why o).answer
failed_if s id number why None = tt
failed_if s id number why (Some f) = failed_by s id number why f (nat_eq (awaited f) number)

pub failed_sent : (s : Kept) (id number : ℕ) (why : Why) → IfAccepted (SentBy (me s)) (call_failed_event s id number why).answer
failed_sent s id number why = failed_if s id number why (flight_of id s)

-- ---- what an arrival is answered

by_sending : (name : List ℕ) (o : Origin) (a : Arrived) → SentBy name a → ArrivesAs name o a
by_sending name o (arrived.Done index id answer) so = tt
by_sending name o (arrived.Call flight set) so = so
by_sending name o (arrived.Known a) so = absurd so

admitted_as : (s : Kept) (o : Origin) (q : Request) (i : Inputs) (much : Option ℕ) → IfAccepted (ArrivesAs (me s) o) (admitted s o q i much).answer
admitted_as s o q i (Some n) = tt
admitted_as s o q i None = by_sending (me s) o (goes_on s (new_flight s o q i)).answer (goes_on_sent s (new_flight s o q i))

arrives_as : (s : Kept) (o : Origin) (q : Request) (i : Inputs) → IfAccepted (ArrivesAs (me s) o) (arrives s o q i).answer
arrives_as s o q i = admitted_as s o q i (or_else (is_crowded s) (is_heavy s))

module _ (s : Kept) (caller : List ℕ) (number : ℕ) (q : Request) (i : Inputs) where
  abbrev Fits : After (Result Arrived ArriveRefused) → Type 0
  Fits a = IfAccepted (ArrivesAs (me s) (Call caller number)) a.answer

  known_as : (e : Entry) (o : Option Record) → Fits (known_by s caller number e o)
  known_as e None = tt
  known_as e (Some r) = (refl, refl)

  entry_as : (o : Option Entry) → Fits (arrives_or_known s caller number q i o)
  entry_as None = arrives_as s (Call caller number) q i
  entry_as (Some e) = known_as e (record_of e)

  version_as : (version : ℕ) (o : Option Request) (known : After (Result Arrived ArriveRefused)) → Fits known → Fits (by_version s version o known)
  version_as version None known so = tt
  version_as version (Some d) known so = so

  gone_as : (o : Option TookRow) (known : After (Result Arrived ArriveRefused)) → Fits known → Fits (unless_gone s o known)
  gone_as None known so = so
  gone_as (Some t) known so = version_as t.version t.desired known so

  free_as : (b : Bool) (known : After (Result Arrived ArriveRefused)) → Fits known → Fits (if b then after s (Err (NotYet number)) else known)
  free_as true known so = tt
  free_as false known so = so

  call_as : Fits (arrive_event s (Call caller number) q i)
  call_as =
      let known = arrives_or_known s caller number q i (find_call (Call caller number) s.entries) in
      let taken = last_taken caller number s.journal in
      free_as (is_in_flight (Call caller number) s) (unless_gone s taken known) (gone_as taken known (entry_as (find_call (Call caller number) s.entries)))

-- a call that is sent is the service's own, and an answer that is known is the service's to the caller
pub arrival_as : (s : Kept) (o : Origin) (q : Request) (i : Inputs) → IfAccepted (ArrivesAs (me s) o) (arrive_event s o q i).answer
arrival_as s Outside q i = arrives_as s Outside q i
arrival_as s (Call caller number) q i = call_as s caller number q i
