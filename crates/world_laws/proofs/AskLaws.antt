-- The events of live requests make their service and what is sent lighter.
use Rattle.std.proofs.Common.{◌≡◌, ℕ, suc, ◌+◌, ◌*◌, ◌≤◌, Bool, true, false, List, [], ◌∷◌, Option, Some, None, Result, Err, find, nat_eq, refl, ap, ◌∙◌, inl, inr, arith, if◌then◌else◌, sum_by}
use Rattle.std.proofs.lemmas.Bool.{cases_Bool}
use Rattle.std.proofs.lemmas.List.Sums.{sum_by-cons}
use Rattle.lang_core.specs.declared.ids.Origin.{Origin}
use Rattle.lang_core.specs.declared.ids.Origin.TheVariants.{Outside, Call}
use Rattle.lang_core.specs.declared.inputs.Inputs.{Inputs}
use Rattle.lang_core.specs.declared.request.Request.{Request}
use Rattle.request_log.specs.Entries.{find_call}
use Rattle.request_log.specs.Records.{Record, record_of}
use Rattle.request_log.specs.declared.entry.Entry.{Entry}
use Rattle.repair_messages.specs.declared.messages.AnswerMessage.{AnswerMessage}
use Rattle.journal_rows.specs.Words.{last_taken}
use Rattle.journal_rows.specs.declared.callee.TookRow.{TookRow}
use Rattle.call_registers.specs.declared.register.Why.{Why}
use Rattle.flights.specs.Numbers.{has_flight, without_flight}
use Rattle.flights.specs.declared.flight.Flight.{Flight}
use Rattle.service_events.specs.State.{Kept, After, after, me, or_else, is_crowded, is_heavy, is_in_flight, flight_of}
use Rattle.service_events.specs.Arriving.{accepted, new_flight, admitted, known_by, arrives_or_known, by_version, unless_gone, arrive_event, is_for, live_answer_rows, answered_flight, call_answered_event, told, failed_flight, call_failed_event}
use Rattle.service_events.specs.Calls.{noted}
use Rattle.service_events.specs.Flying.{awaited, goes_on}
use Rattle.service_events.specs.declared.answers.Arrived.{Arrived}
use Rattle.service_events.specs.declared.refusals.ArriveRefused.{ArriveRefused}
use Rattle.service_events.specs.declared.refusals.ArriveRefused.TheVariants.{NotYet}
use Rattle.service_events.specs.declared.refusals.CallRefused.{CallRefused}
use Rattle.service_events.specs.declared.refusals.CallRefused.TheVariants.{NoFlight}
use Rattle.service_events.proofs.FlightLemmas.{found_id}
use Rattle.world_laws.proofs.GoingWeights.{goes_on_comes}
use Rattle.world_laws.proofs.Weights.{is_among, left_by, chain_behind, cost, flight_weight, call_weight, weight_of_arrival, weight_of_return, IsLighter}

-- ---- flights without one

without_lighter : (w : Flight → ℕ) (id : ℕ) (fs : List Flight) → sum_by w (without_flight id fs) ≤ sum_by w fs
without_lighter w id [] = omega arith
without_lighter w id (f ∷ fs) =
    let rest = without_lighter w id fs in
    let all = sum_by-cons w f fs in
    let left = sum_by-cons w f (without_flight id fs) in
    elim (cases_Bool (nat_eq f.id id)) [
      | inl is ↦ rw is (omega (arith, rest, all))
      | inr other ↦ rw other (omega (arith, rest, all, left))
    ]

found_lighter : (w : Flight → ℕ) (id : ℕ) (fs : List Flight) (f : Flight) → find (has_flight id) fs ≡ Some f → sum_by w (without_flight id fs) + w f ≤ sum_by w fs
found_lighter w id [] f e = cc
found_lighter w id (g ∷ gs) f e =
    let all = sum_by-cons w g gs in
    elim (cases_Bool (nat_eq g.id id)) [
      | inl is ↦ (let here : Some g ≡ Some f = rw is at e in
          let same : w g ≡ w f = (let it : g ≡ f = cc in ap w it) in
          let rest = without_lighter w id gs in
          rw is (omega (arith, rest, all, same)))
      | inr other ↦ (let rest = found_lighter w id gs f (rw other at e) in
          let left = sum_by-cons w g (without_flight id gs) in
          rw other (omega (arith, rest, all, left)))
    ]

-- ---- an arrival

-- the service's name stays, and with what it sends it is lighter than with a call that weighs this much
abbrev Lightens : List (List ℕ) → Kept → ℕ → After (Result Arrived ArriveRefused) → Type 0
Lightens names s came a = (me a.service ≡ me s) × IsLighter names s came a.service (weight_of_arrival names a.answer)

module _ (names : List (List ℕ)) (s : Kept) (came k : ℕ) (is : came ≡ 19 * k + 2) where
  refused_light : (why : ArriveRefused) → Lightens names s came (after s (Err why))
  refused_light why = (refl, omega (arith, is))

  known_light : (caller : List ℕ) (number : ℕ) (e : Entry) (m : Option Record) → Lightens names s came (known_by s caller number e m)
  known_light caller number e None = (refl, omega (arith, is))
  known_light caller number e (Some m) = (refl, omega (arith, is))

module _ (names : List (List ℕ)) (s : Kept) (q : Request) (i : Inputs) where
  -- what each of its calls may cost
  abbrev behind : ℕ
  behind = cost (left_by (chain_behind (me s) q) names)

  admitted_light : (came : ℕ) → came ≡ 19 * behind + 2 → (o : Origin) (much : Option ℕ) → Lightens names s came (admitted s o q i much)
  admitted_light came is o (Some n) = (refl, omega (arith, is))
  admitted_light came is o None =
      let f = new_flight s o q i in
      let c = goes_on_comes names s f in
      let rest = without_lighter (flight_weight names (me s)) f.id s.flights in
      let least = c.1 in
      (c.0, omega (arith, is, rest, least))

  arrives_or_known_light : (came : ℕ) → came ≡ 19 * behind + 2 → (caller : List ℕ) (number : ℕ) (e : Option Entry)
      → Lightens names s came (arrives_or_known s caller number q i e)
  arrives_or_known_light came is caller number (Some e) = known_light names s came behind is caller number e (record_of e)
  arrives_or_known_light came is caller number None = admitted_light came is (Call caller number) (or_else (is_crowded s) (is_heavy s))

  unless_gone_light : (came : ℕ) → came ≡ 19 * behind + 2 → (t : Option TookRow) (known : After (Result Arrived ArriveRefused)) → Lightens names s came known
      → Lightens names s came (unless_gone s t known)
  unless_gone_light came is None known h = h
  unless_gone_light came is (Some t) known h = by_version_light t.desired
    where
      by_version_light : (desired : Option Request) → Lightens names s came (by_version s t.version desired known)
      by_version_light None = (refl, omega (arith, is))
      by_version_light (Some r) = h

  unless_flying : (came : ℕ) → came ≡ 19 * behind + 2 → (number : ℕ) (flying : Bool) (a : After (Result Arrived ArriveRefused)) → Lightens names s came a
      → Lightens names s came (if flying then after s (Err (NotYet number)) else a)
  unless_flying came is number true a h = (refl, omega (arith, is))
  unless_flying came is number false a h = h

  arrive_light : (came : ℕ) → came ≡ 19 * behind + 2 → (o : Origin) → Lightens names s came (arrive_event s o q i)
  arrive_light came is Outside = admitted_light came is Outside (or_else (is_crowded s) (is_heavy s))
  arrive_light came is (Call caller number) =
      let runs = arrives_or_known s caller number q i (find_call (Call caller number) s.entries) in
      unless_flying came is number (is_in_flight (Call caller number) s) (unless_gone s (last_taken caller number s.journal) runs)
      (unless_gone_light came is (last_taken caller number s.journal) runs
      (arrives_or_known_light came is caller number (find_call (Call caller number) s.entries)))

  call_price : (among : Bool) (n : ℕ) → among ≡ true → (if among then cost (suc n) else 1) ≡ 19 * cost n + 2
  call_price true n h = refl
  call_price false n h = cc

  -- an arrival as a call in hand, at a service that is one of these
  pub arrive_lightens : (o : Origin) → is_among (me s) names ≡ true
      → (me (arrive_event s o q i).service ≡ me s)
      × IsLighter names s (call_weight names (me s) q) (arrive_event s o q i).service (weight_of_arrival names (arrive_event s o q i).answer)
  arrive_lightens o among =
      arrive_light (call_weight names (me s) q) (call_price (is_among (me s) names) (left_by (chain_behind (me s) q) names) among) o

-- ---- what comes back of a call

-- the same where an answer or a failure of a call is in hand, which weighs 1
abbrev Returns : List (List ℕ) → Kept → After (Result Arrived CallRefused) → Type 0
Returns names s a = (me a.service ≡ me s) × IsLighter names s 1 a.service (weight_of_return names a.answer)

-- a flight goes on, where its service may have noted something that leaves setting and flights
returns_on : (names : List (List ℕ)) (s t : Kept) (id : ℕ) (f : Flight) → t.setting ≡ s.setting → t.flights ≡ s.flights → flight_of id s ≡ Some f
    → Returns names s (accepted (goes_on t f))
returns_on names s t id f setting flights e =
    let c = goes_on_comes names t f in
    let sent = c.1 in
    let name : me t ≡ me s = ap (λ x. x.me) setting in
    let weight = flight_weight names (me s) in
    let number = found_id id s.flights f e in
    let left : sum_by (flight_weight names (me t)) (without_flight f.id t.flights) ≡ sum_by weight (without_flight id s.flights) =
    ap (λ n. sum_by (flight_weight names n) (without_flight f.id t.flights)) name ∙ ap (λ n. sum_by weight (without_flight n t.flights)) number
    ∙ ap (λ fs. sum_by weight (without_flight id fs)) flights in
    let own : flight_weight names (me t) f ≡ weight f = ap (λ n. flight_weight names n f) name in
    let found = found_lighter weight id s.flights f e in
    (c.0 ∙ name, omega (arith, sent, left, own, found))

refused_return : (names : List (List ℕ)) (s : Kept) (why : CallRefused) → Returns names s (after s (Err why))
refused_return names s why = (refl, omega arith)

returns_if : (names : List (List ℕ)) (s : Kept) (id : ℕ) (is : Bool) (a : After (Result Arrived CallRefused)) → Returns names s a
    → Returns names s (if is then a else after s (Err (NoFlight id)))
returns_if names s id true a h = h
returns_if names s id false a h = refused_return names s (NoFlight id)

answered_returns : (names : List (List ℕ)) (s : Kept) (id : ℕ) (a : AnswerMessage) (o : Option Flight) → flight_of id s ≡ o → Returns names s (answered_flight s id a o)
answered_returns names s id a None e = refused_return names s (NoFlight id)
answered_returns names s id a (Some f) e =
    let t = noted (live_answer_rows s a) s in
    returns_if names s id (is_for s a f) (accepted (goes_on t f)) (returns_on names s t id f refl refl e)

-- the answer of a call
pub call_answered_lightens : (names : List (List ℕ)) (s : Kept) (id : ℕ) (a : AnswerMessage)
    → (me (call_answered_event s id a).service ≡ me s)
    × IsLighter names s 1 (call_answered_event s id a).service (weight_of_return names (call_answered_event s id a).answer)
call_answered_lightens names s id a = answered_returns names s id a (flight_of id s) refl

failed_returns : (names : List (List ℕ)) (s : Kept) (id number : ℕ) (why : Why) (o : Option Flight) → flight_of id s ≡ o → Returns names s (failed_flight s id number why o)
failed_returns names s id number why None e = refused_return names s (NoFlight id)
failed_returns names s id number why (Some f) e =
    let t = told number why s in
    returns_if names s id (nat_eq (awaited f) number) (accepted (goes_on t f)) (returns_on names s t id f refl refl e)

-- the failure of a call
pub call_failed_lightens : (names : List (List ℕ)) (s : Kept) (id number : ℕ) (why : Why)
    → (me (call_failed_event s id number why).service ≡ me s)
    × IsLighter names s 1 (call_failed_event s id number why).service (weight_of_return names (call_failed_event s id number why).answer)
call_failed_lightens names s id number why = failed_returns names s id number why (flight_of id s) refl
