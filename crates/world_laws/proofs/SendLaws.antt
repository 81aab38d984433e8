-- A live request leaves its service's setting, and calls a peer by a call of its own that asks something.
use Rattle.std.proofs.Common.{◌≡◌, ℕ, List, [], ◌∷◌, Option, Some, None, IsSome, Contains, Result, Ok, Err, nat_eq, nat_le, slice_get, refl, sym, ap, ◌∙◌, subst}
use Rattle.std.proofs.lemmas.Bool.{cond_both}
use Rattle.lang_core.specs.declared.ids.Origin.{Origin}
use Rattle.lang_core.specs.declared.ids.Origin.TheVariants.{Outside, Call}
use Rattle.lang_core.specs.declared.inputs.Inputs.{Inputs}
use Rattle.lang_core.specs.declared.request.Request.{Request}
use Rattle.lang_core.specs.declared.trace.CallMade.{CallMade}
use Rattle.lang_core.specs.declared.trace.Trace.{Trace}
use Rattle.handler_run.specs.declared.state.Ran.{Ran}
use Rattle.request_log.specs.Entries.{find_call}
use Rattle.request_log.specs.declared.entry.Entry.{Entry}
use Rattle.request_log.specs.Records.{Record, record_of}
use Rattle.local_repair.specs.Alone.{trace_or_dead}
use Rattle.repair_messages.specs.declared.messages.AnswerMessage.{AnswerMessage}
use Rattle.repair_messages.specs.declared.messages.SetMessage.{SetMessage}
use Rattle.journal_rows.specs.Words.{last_taken}
use Rattle.journal_rows.specs.declared.callee.TookRow.{TookRow}
use Rattle.call_registers.specs.Registers.{next_number}
use Rattle.call_registers.specs.declared.register.Why.{Why}
use Rattle.flights.specs.Moves.{calls_in, next_move}
use Rattle.flights.specs.declared.flight.Flight.{Flight}
use Rattle.flights.specs.declared.flight.Move.{Move}
use Rattle.flights.specs.declared.flight.Move.TheVariants.{Commit, Name, Change}
use Rattle.service_events.specs.Arriving.{accepted, admitted, arrive_event, arrives_or_known, by_version, known_by, new_flight, unless_gone, is_for, live_answer_rows, answered_flight, call_answered_event, told, failed_flight, call_failed_event}
use Rattle.service_events.specs.Calls.{noted, named}
use Rattle.service_events.specs.Flying.{awaited, wanted_of, with_slot, with_change, waits, committed, changed_unsent, change_rows, completed, changed, moved, flight_run, goes_on}
use Rattle.service_events.specs.State.{Kept, After, after, me, or_else, is_crowded, is_heavy, is_in_flight, flight_of}
use Rattle.service_events.specs.declared.answers.Arrived.{Arrived}
use Rattle.service_events.specs.declared.answers.Arrived.TheVariants.{Done, Call as Sends, Known}
use Rattle.service_events.specs.declared.refusals.ArriveRefused.{ArriveRefused}
use Rattle.service_events.specs.declared.refusals.CallRefused.{CallRefused}
use Rattle.world_laws.proofs.LandingLaws.{completed_lands}
use Rattle.world_laws.proofs.PeerLaws.{call_by, flight_to, got_to, wanted_to}

-- a live call of this service: its own, to a peer, which asks something
pub record IsLiveCall (s : Kept) (set : SetMessage) : Type 0 where
  pub caller : set.caller ≡ me s
  pub peer : Contains s.setting.peers set.dest
  pub asks : IsSome set.desired

-- what a live request sends, if anything
abbrev pub SendsWell : Kept → Arrived → Type 0
SendsWell s (Done index id a) = Unit {0}
SendsWell s (Sends flight set) = IsLiveCall s set
SendsWell s (Known a) = Unit {0}

-- where it isn't refused
abbrev pub IfSends : {E : Type 0} → Kept → Result Arrived E → Type 0
IfSends s (Ok arrived) = SendsWell s arrived
IfSends s (Err why) = Unit {0}

-- ---- a flight goes on

record Goes (s : Kept) (a : After Arrived) : Type 0 where
  pub setting : a.service.setting ≡ s.setting
  pub sends : SendsWell s a.answer

committed_goes : (s : Kept) (f : Flight) (t : Trace) → Goes s (committed s f t)
committed_goes s f t = record { setting = refl; sends = tt }

completed_goes : (runs : ℕ) (s : Kept) (f : Flight) → Goes s (completed runs s f)
completed_goes runs s f =
    let l = completed_lands runs s f in
    let there : Goes s (committed l.at l.flight l.trace) = record { setting = l.setting; sends = tt } in
    subst (Goes s) (sym l.is) there

waits_goes : (s t : Kept) (f : Flight) (number : ℕ) (c : CallMade) → t.setting ≡ s.setting → Contains s.setting.peers c.dest → Goes s (waits t f number c)
waits_goes s t f number c setting to = record { setting = setting; sends = record { caller = ap (λ x. x.me) setting; peer = to; asks = refl } }

changed_goes : (s : Kept) (f : Flight) (slot : ℕ) (c : CallMade) → Contains s.setting.peers c.dest → Goes s (changed s f slot c)
changed_goes s f slot c to =
    let next = next_number s.registers in
    let g = with_change slot next c f in
    let t = changed_unsent s f slot c in
    let u = noted (change_rows s f slot c) s in
    cond_both (nat_le 3 f.changes) (completed 17 t g) (waits u g next c) (Goes s)
    (λ _. let l = completed_goes 17 t g in record { setting = l.setting; sends = sent_same (completed 17 t g).answer l.sends })
    (λ _. waits_goes s u g next c refl to)
  where
    sent_same : (arrived : Arrived) → SendsWell (changed_unsent s f slot c) arrived → SendsWell s arrived
    sent_same (Done index id a) h = tt
    sent_same (Sends flight set) h = record { caller = h.caller; peer = h.peer; asks = h.asks }
    sent_same (Known a) h = tt

moved_goes : (s : Kept) (f : Flight) (ran : Ran) (move : Move) → flight_run s f ≡ ran → Goes s (moved s f ran move)
moved_goes s f ran Commit is = committed_goes s f (trace_or_dead ran)
moved_goes s f ran Name is =
    let next = next_number s.registers in
    let peers = s.setting.peers in
    let to : CallMade → Type 0 = λ c. Contains peers c.dest in
    call_by (Goes s) (wanted_of ran) (λ c. waits (noted (named next c ∷ []) s) (with_slot next c f) next c) (committed s f (trace_or_dead ran)) to
    (wanted_to peers ran (flight_to s f ran is))
    (λ c h. waits_goes s (noted (named next c ∷ []) s) (with_slot next c f) next c refl h)
    (committed_goes s f (trace_or_dead ran))
moved_goes s f ran (Change slot) is =
    let peers = s.setting.peers in
    let to : CallMade → Type 0 = λ c. Contains peers c.dest in
    call_by (Goes s) (slice_get (calls_in ran) slot) (λ c. changed s f slot c) (committed s f (trace_or_dead ran)) to
    (got_to peers (calls_in ran) slot (slice_get (calls_in ran) slot) refl (flight_to s f ran is))
    (λ c h. changed_goes s f slot c h)
    (committed_goes s f (trace_or_dead ran))

goes_on_goes : (s : Kept) (f : Flight) → Goes s (goes_on s f)
unfolding goes_on
goes_on_goes s f = moved_goes s f (flight_run s f) (next_move f (flight_run s f)) refl

-- ---- events

-- the setting stays, and what is sent is a live call
pub record Lives {E : Type 0} (s : Kept) (a : After (Result Arrived E)) : Type 0 where
  pub setting : a.service.setting ≡ s.setting
  pub sends : IfSends s a.answer

refused_lives : {E : Type 0} (s : Kept) (why : E) → Lives s (after s (Err why))
refused_lives s why = record { setting = refl; sends = tt }

module _ (s : Kept) where
  -- where it may have noted something that leaves the setting
  on_lives : {E : Type 0} (t : Kept) (f : Flight) → t.setting ≡ s.setting → Lives {E = E} s (accepted (goes_on t f))
  on_lives {E} t f setting =
      let g = goes_on_goes t f in
      record { setting = g.setting ∙ setting; sends = moved_to (goes_on t f).answer g.sends }
    where
      moved_to : (arrived : Arrived) → SendsWell t arrived → IfSends {E = E} s (Ok arrived)
      moved_to (Done index id a) h = tt
      moved_to (Sends flight set) h =
          record { caller = h.caller ∙ ap (λ x. x.me) setting; peer = subst (λ x. Contains x.peers set.dest) setting h.peer; asks = h.asks }
      moved_to (Known a) h = tt

  admitted_lives : (o : Origin) (q : Request) (i : Inputs) (much : Option ℕ) → Lives s (admitted s o q i much)
  admitted_lives o q i (Some n) = refused_lives s (ArriveRefused.Full n)
  admitted_lives o q i None = on_lives s (new_flight s o q i) refl

  known_lives : (c : List ℕ) (n : ℕ) (e : Entry) (r : Option Record) → Lives s (known_by s c n e r)
  known_lives c n e None = refused_lives s (ArriveRefused.NotYet n)
  known_lives c n e (Some r) = record { setting = refl; sends = tt }

  or_known_lives : (c : List ℕ) (n : ℕ) (q : Request) (i : Inputs) (o : Option Entry) → Lives s (arrives_or_known s c n q i o)
  or_known_lives c n q i None = admitted_lives (Call c n) q i (or_else (is_crowded s) (is_heavy s))
  or_known_lives c n q i (Some e) = known_lives c n e (record_of e)

  by_version_lives : (version : ℕ) (d : Option Request) (known : After (Result Arrived ArriveRefused)) → Lives s known → Lives s (by_version s version d known)
  by_version_lives version None known h = refused_lives s (ArriveRefused.Gone version)
  by_version_lives version (Some q) known h = h

  unless_gone_lives : (last : Option TookRow) (known : After (Result Arrived ArriveRefused)) → Lives s known → Lives s (unless_gone s last known)
  unless_gone_lives None known h = h
  unless_gone_lives (Some t) known h = by_version_lives t.version t.desired known h

  pub arrive_lives : (o : Origin) (q : Request) (i : Inputs) → Lives s (arrive_event s o q i)
  arrive_lives Outside q i = admitted_lives Outside q i (or_else (is_crowded s) (is_heavy s))
  arrive_lives (Call c n) q i =
      let known = arrives_or_known s c n q i (find_call (Call c n) s.entries) in
      cond_both (is_in_flight (Call c n) s) (after s (Err (ArriveRefused.NotYet n))) (unless_gone s (last_taken c n s.journal) known) (λ a. Lives s a)
      (λ _. refused_lives s (ArriveRefused.NotYet n))
      (λ _. unless_gone_lives (last_taken c n s.journal) known (or_known_lives c n q i (find_call (Call c n) s.entries)))

  answered_lives : (id : ℕ) (a : AnswerMessage) (o : Option Flight) → Lives s (answered_flight s id a o)
  answered_lives id a None = refused_lives s (CallRefused.NoFlight id)
  answered_lives id a (Some f) =
      let t = noted (live_answer_rows s a) s in
      cond_both (is_for s a f) (accepted (goes_on t f)) (after s (Err (CallRefused.NoFlight id))) (λ x. Lives s x) (λ _. on_lives t f refl)
      (λ _. refused_lives s (CallRefused.NoFlight id))

  pub call_answered_lives : (id : ℕ) (a : AnswerMessage) → Lives s (call_answered_event s id a)
  call_answered_lives id a = answered_lives id a (flight_of id s)

  failed_lives : (id n : ℕ) (why : Why) (o : Option Flight) → Lives s (failed_flight s id n why o)
  failed_lives id n why None = refused_lives s (CallRefused.NoFlight id)
  failed_lives id n why (Some f) =
      let t = told n why s in
      cond_both (nat_eq (awaited f) n) (accepted (goes_on t f)) (after s (Err (CallRefused.NoFlight id))) (λ x. Lives s x) (λ _. on_lives t f refl)
      (λ _. refused_lives s (CallRefused.NoFlight id))

  pub call_failed_lives : (id n : ℕ) (why : Why) → Lives s (call_failed_event s id n why)
  call_failed_lives id n why = failed_lives id n why (flight_of id s)
