-- The answer of a live request goes back to the call that it comes from.
use Rattle.std.proofs.Common.{◌≡◌, ℕ, Bool, true, false, List, Option, Some, None, Result, Ok, Err, find, slice_get, nat_eq, nat_le, refl, sym, ap, ◌∙◌, subst, if◌then◌else◌}
use Rattle.std.specs.Prelude.{option_and_then}
use Rattle.lang_core.specs.declared.ids.Origin.{Origin}
use Rattle.lang_core.specs.declared.ids.Origin.TheVariants.{Outside, Call as CallOrigin}
use Rattle.lang_core.specs.declared.inputs.Inputs.{Inputs}
use Rattle.lang_core.specs.declared.request.Request.{Request}
use Rattle.lang_core.specs.declared.trace.CallMade.{CallMade}
use Rattle.lang_core.specs.declared.trace.Trace.{Trace}
use Rattle.handler_run.specs.declared.state.Ran.{Ran}
use Rattle.handler_run.specs.declared.state.Ran.TheVariants.{Done as Ended, Wants}
use Rattle.service_events.specs.HandedOn.{trace_or_dead}
use Rattle.repair_messages.specs.declared.messages.AnswerMessage.{AnswerMessage}
use Rattle.call_registers.specs.Registers.{next_number}
use Rattle.call_registers.specs.declared.register.Why.{Why}
use Rattle.flights.specs.Moves.{calls_in, first_other, by_run, change_or}
use Rattle.flights.specs.declared.flight.Flight.{Flight}
use Rattle.service_events.specs.State.{Kept, After, after, or_else, is_crowded, is_heavy, flight_of}
use Rattle.service_events.specs.Arriving.{accepted, admitted, arrive_event, new_flight, is_for, live_answer_rows, answered_flight, call_answered_event, told, failed_flight, call_failed_event}
use Rattle.service_events.specs.Calls.{noted}
use Rattle.service_events.specs.Flying.{awaited, answer_to_caller, committed, committed_entry, flight_run, with_change, call_or_none, changed_unsent, completed, changed, moved, goes_on}
use Rattle.service_events.specs.declared.answers.Arrived.{Arrived}
use Rattle.service_events.specs.declared.answers.Arrived.TheVariants.{Done, Call as Sends, Known}
use Rattle.service_events.specs.declared.refusals.CallRefused.TheVariants.{NoFlight}
use Rattle.world_laws.proofs.LandingLaws.{completed_lands}
use Rattle.world_events.specs.Events.{answered_back, is_call_of, reply_among, reply_to, sent}
use Rattle.world_events.specs.declared.packet.Packet.{Packet}
use Rattle.world_events.specs.declared.packet.Packet.TheVariants.{Call, CallReply, Post, PostReply}
use Rattle.world_core.specs.Backs.{answer_by, back_of, back_to, back_for}

-- an answer, if there is one, is to the call that this origin is
abbrev pub IsTo : Origin → Option AnswerMessage → Type 0
IsTo o None = Unit {0}
IsTo o (Some a) = o ≡ CallOrigin a.caller a.number

-- a live request that goes on is no known one, and where it is answered the answer is to its call
abbrev pub GoesBack : Origin → Arrived → Type 0
GoesBack o (Done index id a) = IsTo o a
GoesBack o (Sends flight set) = Unit {0}
GoesBack o (Known a) = ⊥

committed_to : (s : Kept) (f : Flight) (t : Trace) (o : Origin) → IsTo o (answer_to_caller s o (committed_entry s f t))
committed_to s f t Outside = tt
committed_to s f t (CallOrigin caller number) = refl

committed_back : (s : Kept) (f : Flight) (t : Trace) → GoesBack f.origin (committed s f t).answer
committed_back s f t = committed_to s f t f.origin

completed_back : (runs : ℕ) (s : Kept) (f : Flight) → GoesBack f.origin (completed runs s f).answer
completed_back runs s f =
    let l = completed_lands runs s f in
    let A : After Arrived → Type 0 = λ a. GoesBack f.origin a.answer in
    let O : Origin → Type 0 = λ o. GoesBack o (committed l.at l.flight l.trace).answer in
    subst A (sym l.is) (subst O l.origin (committed_back l.at l.flight l.trace))

call_back : (o : Origin) (x : Option CallMade) (go : CallMade → After Arrived) (never : After Arrived) → ((c : CallMade) → GoesBack o (go c).answer) → GoesBack o never.answer
    → GoesBack o (call_or_none x go never).answer
call_back o None go never goes stops = stops
call_back o (Some c) go never goes stops = goes c

if_back : (o : Origin) (b : Bool) (x y : After Arrived) → GoesBack o x.answer → GoesBack o y.answer → GoesBack o (if b then x else y).answer
if_back o true x y h k = h
if_back o false x y h k = k

moved_back : (s : Kept) (f : Flight) (ran : Ran) (o : Option ℕ) → GoesBack f.origin (moved s f ran (change_or o (by_run ran))).answer
moved_back s f ran (Some slot) =
    let next = next_number s.registers in
    call_back f.origin (slice_get (calls_in ran) slot) (λ c. changed s f slot c) (committed s f (trace_or_dead ran))
    (λ c. if_back f.origin (nat_le 3 f.changes) (completed 17 (changed_unsent s f slot c) (with_change slot next c f)) _ (completed_back 17 (changed_unsent s f slot c) (with_change slot next c f)) tt)
    (committed_back s f (trace_or_dead ran))
moved_back s f (Ended t) None = committed_back s f t
moved_back s f (Wants slot calls c) None = tt

pub goes_on_back : (s : Kept) (f : Flight) → GoesBack f.origin (goes_on s f).answer
unfolding goes_on
goes_on_back s f = moved_back s f (flight_run s f) (first_other f.calls (calls_in (flight_run s f)))

-- ---- events

-- where an event isn't refused
abbrev pub IfBack : {E : Type 0} → Origin → Result Arrived E → Type 0
IfBack o (Ok arrived) = GoesBack o arrived
IfBack o (Err why) = Unit {0}

admitted_back : (s : Kept) (o : Origin) (q : Request) (i : Inputs) (much : Option ℕ) → IfBack o (admitted s o q i much).answer
admitted_back s o q i (Some n) = tt
admitted_back s o q i None = goes_on_back s (new_flight s o q i)

-- a request from outside is answered to no call
pub begun_back : (s : Kept) (q : Request) (i : Inputs) → IfBack Outside (arrive_event s Outside q i).answer
begun_back s q i = admitted_back s Outside q i (or_else (is_crowded s) (is_heavy s))

-- the origin of a flight, if it is there
abbrev pub IfFlying : {E : Type 0} → Option Flight → Result Arrived E → Type 0
IfFlying None (Ok arrived) = ⊥
IfFlying None (Err why) = Unit {0}
IfFlying (Some f) result = IfBack f.origin result

answered_if : (s : Kept) (id : ℕ) (a : AnswerMessage) (o : Option Flight) → IfFlying o (answered_flight s id a o).answer
answered_if s id a None = tt
answered_if s id a (Some f) = goes (is_for s a f)
  where
    goes : (b : Bool) → IfBack f.origin (if b then accepted (goes_on (noted (live_answer_rows s a) s) f) else after s (Err (NoFlight id))).answer
    goes true = goes_on_back (noted (live_answer_rows s a) s) f
    goes false = tt

pub answered_is_back : (s : Kept) (id : ℕ) (a : AnswerMessage) → IfFlying (flight_of id s) (call_answered_event s id a).answer
answered_is_back s id a = answered_if s id a (flight_of id s)

failed_if : (s : Kept) (id number : ℕ) (why : Why) (o : Option Flight) → IfFlying o (failed_flight s id number why o).answer
failed_if s id number why None = tt
failed_if s id number why (Some f) = goes (nat_eq (awaited f) number)
  where
    goes : (b : Bool) → IfBack f.origin (if b then accepted (goes_on (told number why s) f) else after s (Err (NoFlight id))).answer
    goes true = goes_on_back (told number why s) f
    goes false = tt

pub failed_is_back : (s : Kept) (id number : ℕ) (why : Why) → IfFlying (flight_of id s) (call_failed_event s id number why).answer
failed_is_back s id number why = failed_if s id number why (flight_of id s)

-- ---- whose call it is

one_back : (a : AnswerMessage) (o : Option Packet) → answer_by (option_and_then back_of o) a ≡ reply_to a o
one_back a None = refl
one_back a (Some (Call from flight set)) = refl
one_back a (Some (CallReply to flight number reply)) = refl
one_back a (Some (Post post)) = refl
one_back a (Some (PostReply post reply)) = refl

back_among : (packets : List Packet) (o : Origin) (a : AnswerMessage) → o ≡ CallOrigin a.caller a.number → answer_by (back_to packets o) a ≡ reply_among packets a
back_among packets o a is = ap (λ x. answer_by (back_to packets x) a) is ∙ one_back a (find (is_call_of a.caller a.number) packets)

answered_among : (packets : List Packet) (o : Origin) (a : Option AnswerMessage) → IsTo o a
    → answered_back (answer_by (back_to packets o)) a ≡ answered_back (reply_among packets) a
answered_among packets o None is = refl
answered_among packets o (Some a) is = back_among packets o a is

-- what is sent of it is the same by its origin as by the answer
pub sent_among : (packets : List Packet) (from : List ℕ) (o : Origin) (arrived : Arrived) → GoesBack o arrived
    → sent from (answer_by (back_to packets o)) arrived ≡ sent from (reply_among packets) arrived
sent_among packets from o (Done index id a) goes = answered_among packets o a goes
sent_among packets from o (Sends flight set) goes = refl
sent_among packets from o (Known a) goes = absurd goes

pub sent_for : {E : Type 0} (packets : List Packet) (from : List ℕ) (f : Option Flight) (arrived : Arrived) (result : Result Arrived E) → result ≡ Ok arrived → IfFlying f result
    → sent from (answer_by (back_for packets f)) arrived ≡ sent from (reply_among packets) arrived
sent_for {E} packets from None arrived result is goes = (let P : Result Arrived E → Type 0 = λ r. IfFlying None r in absurd (subst P is goes))
sent_for {E} packets from (Some f) arrived result is goes =
    (let P : Result Arrived E → Type 0 = λ r. IfBack f.origin r in sent_among packets from f.origin arrived (subst P is goes))
