-- What a live request leaves and sends weighs at most what its flight weighed.
use Rattle.std.proofs.Common.{◌≡◌, ℕ, zero, suc, ◌+◌, ◌-◌, ◌*◌, ◌<◌, ◌≤◌, Bool, true, false, List, [], ◌∷◌, ◌++◌, Option, Some, None, map, length, slice_get, nat_le, refl, sym, ap, ◌∙◌, subst, arith, length-append, if◌then◌else◌, sum_by}
use Rattle.std.proofs.lemmas.Bool.{leb-false}
use Rattle.std.proofs.lemmas.List.{length-set}
use Rattle.std.proofs.Math.ListN.{length-map}
use Rattle.lang_core.specs.declared.request.Request.{Request}
use Rattle.lang_core.specs.declared.trace.CallMade.{CallMade}
use Rattle.lang_core.specs.declared.trace.Trace.{Trace}
use Rattle.handler_run.proofs.RunLaws.{few_wants, goes_on_wants}
use Rattle.handler_run.specs.HandedOn.{with_program}
use Rattle.handler_run.specs.declared.state.Ran.{Ran}
use Rattle.handler_run.specs.declared.state.Ran.TheVariants.{Done, Wants}
use Rattle.local_repair.specs.Alone.{trace_or_dead}
use Rattle.local_repair.specs.Current.{rows_after}
use Rattle.call_registers.specs.Registers.{next_number}
use Rattle.flights.specs.Moves.{calls_in, first_other, by_run, change_or}
use Rattle.flights.specs.declared.flight.Flight.{Flight}
use Rattle.service_events.specs.State.{Kept, After, me, answers, without_flight, base, unfolded}
use Rattle.service_events.specs.Calls.{noted, named}
use Rattle.service_events.specs.Flying.{flight_run, committed, with_slot, with_change, change_rows, waits, call_or_none, changed_unsent, completed, changed, moved, goes_on}
use Rattle.service_events.specs.declared.answers.Arrived.{Arrived}
use Rattle.service_events.proofs.FlightLaws.{flown}
use Rattle.service_events.proofs.GoingLaws.{is_other}
use Rattle.service_events.proofs.CallRowLemmas.{Each, each_behind}
use Rattle.world_laws.proofs.LandingLaws.{Lands, lands_after, completed_lands}
use Rattle.world_laws.proofs.ChainLaws.{IsOnward, calls_onward}
use Rattle.world_laws.proofs.WeightLemmas.{left_less, cost_grows, cost_some, fewer_weigh, sum_between}
use Rattle.world_laws.proofs.Weights.{is_among, left_by, chain_behind, cost, room, flight_weight, load, call_weight, sent_weight}

-- ---- a call that is sent

call_costs : (q : Bool) (j k : ℕ) → (q ≡ true → j < k) → (if q then cost (suc j) else 1) ≤ cost k
call_costs true j k h = let l = h refl in cost_grows (suc j) k (omega (arith, l))
call_costs false j k h = cost_some k

-- a call of a run costs at most what each call of its flight may cost
onward_costs : (names : List (List ℕ)) (name : List ℕ) (peers : List (List ℕ)) (q : Request) (c : CallMade) → IsOnward name peers q c → call_weight names c.dest c.request ≤ cost (left_by (chain_behind name q) names)
onward_costs names name peers q c o =
    let chain = chain_behind name q in
    let W : List (List ℕ) → Type 0 = λ ch. (if is_among c.dest names then cost (suc (left_by (ch ++ c.dest ∷ []) names)) else 1) ≤ cost (left_by chain names) in
    subst W (sym o.chain) (call_costs (is_among c.dest names) (left_by (chain ++ c.dest ∷ []) names) (left_by chain names) (λ among. left_less c.dest chain names among o.fresh))

-- ---- what a flight comes to

-- its service is lighter by the flight, whose weight covers what becomes of it and what is sent
abbrev Comes : List (List ℕ) → Kept → Flight → After Arrived → Type 0
Comes names s f a =
    (me a.service ≡ me s)
    × (load names a.service + sent_weight names a.answer ≤ sum_by (flight_weight names (me s)) (without_flight f.id s.flights) + flight_weight names (me s) f)

committed_comes : (names : List (List ℕ)) (s : Kept) (f : Flight) (t : Trace) → Comes names s f (committed s f t)
committed_comes names s f t = (refl, omega arith)

-- a flight that waits now may send fewer calls than before
waits_comes : (names : List (List ℕ)) (s : Kept) (f g : Flight) (number : ℕ) (c : CallMade) → g.id ≡ f.id → g.request ≡ f.request → room g < room f
    → IsOnward (me s) s.setting.peers f.request c → Comes names s f (waits s g number c)
waits_comes names s f g number c id request fewer onward =
    let w = flown s f in
    let weight = flight_weight names (me s) in
    let behind : Request → ℕ = λ q. cost (left_by (chain_behind (me s) q) names) in
    let put = ap (sum_by weight) (w.put g id) ∙ sum_between weight w.lows g w.highs in
    let without = ap (sum_by weight) w.without in
    let costs = onward_costs names (me s) s.setting.peers f.request c onward in
    let covers = fewer_weigh (room g) (room f) (behind f.request) (call_weight names c.dest c.request) fewer costs in
    let same : room g * behind g.request ≡ room g * behind f.request = ap (λ q. room g * behind q) request in
    (refl, omega (arith, put, without, covers, same))

lands_comes : (names : List (List ℕ)) (s : Kept) (f g : Flight) (a : After Arrived) → g.id ≡ f.id → Lands s g a → Comes names s f a
lands_comes names s f g a same l =
    let name : me l.at ≡ me s = ap (λ t. t.me) l.setting in
    let id : l.flight.id ≡ f.id = l.id ∙ same in
    let left : without_flight l.flight.id l.at.flights ≡ without_flight f.id s.flights = ap (λ n. without_flight n l.at.flights) id ∙ ap (without_flight f.id) l.flights in
    let weighs : load names (committed l.at l.flight l.trace).service ≡ sum_by (flight_weight names (me s)) (without_flight f.id s.flights) =
    ap (λ n. sum_by (flight_weight names n) (without_flight l.flight.id l.at.flights)) name ∙ ap (sum_by (flight_weight names (me s))) left in
    let C : After Arrived → Type 0 = Comes names s f in
    subst C (sym l.is) (name, omega (arith, weighs))

-- ---- a run's calls and their number

got : (P : CallMade → Type 0) (cs : List CallMade) (slot : ℕ) (c : CallMade) → slice_get cs slot ≡ Some c → Each P cs → P c
got P [] slot c e h = cc
got P (x ∷ cs) zero c e h = (let is : x ≡ c = cc in subst P is h.0)
got P (x ∷ cs) (suc slot) c e h = got P cs slot c e h.1

onwards : (s : Kept) (f : Flight) (ran : Ran) → flight_run s f ≡ ran → Each (IsOnward (me s) s.setting.peers f.request) (calls_in ran)
onwards s f ran is =
    let E : Ran → Type 0 = λ r. Each (IsOnward (me s) s.setting.peers f.request) (calls_in r) in
    subst E is (calls_onward (with_program f.program.program s.setting) f.request f.inputs (map (answers s) f.numbers) (rows_after (base s) (unfolded s)))

-- a run that wants an answer was given fewer than 16, one by each number
few_numbers : (s : Kept) (f : Flight) (slot : ℕ) (calls : List CallMade) (call : CallMade) → flight_run s f ≡ Wants slot calls call → length f.numbers < 16
few_numbers s f slot calls call is =
    let given = map (answers s) f.numbers in
    let rows = rows_after (base s) (unfolded s) in
    let setting = with_program f.program.program s.setting in
    let few = few_wants setting f.request f.inputs given rows slot calls call is in
    let all = (goes_on_wants setting f.request f.inputs given rows slot calls call is).0 in
    let many : length given ≡ length f.numbers = length-map f.numbers (answers s) in
    omega (arith, few, all, many)

named_fewer : (f : Flight) (number : ℕ) (c : CallMade) → length f.numbers < 16 → room (with_slot number c f) < room f
named_fewer f number c few =
    let more = length-append f.numbers (number ∷ []) in
    omega (arith, few, more)

changed_fewer : (f : Flight) (slot number : ℕ) (c : CallMade) → nat_le 3 f.changes ≡ false → room (with_change slot number c f) < room f
changed_fewer f slot number c few =
    let size = length-set f.numbers slot number in
    let less = leb-false 3 f.changes few in
    omega (arith, size, less)

-- ---- a live request that goes on

changes_come : (names : List (List ℕ)) (s : Kept) (f : Flight) (slot : ℕ) (c : CallMade) (many : Bool) → nat_le 3 f.changes ≡ many → IsOnward (me s) s.setting.peers f.request c
    → Comes names s f
    (if many then completed 17 (changed_unsent s f slot c) (with_change slot (next_number s.registers) c f)
    else waits (noted (change_rows s f slot c) s) (with_change slot (next_number s.registers) c f) (next_number s.registers) c)
changes_come names s f slot c true is onward =
    let t = changed_unsent s f slot c in
    let g = with_change slot (next_number s.registers) c f in
    lands_comes names s f g (completed 17 t g) refl (lands_after s t g g (completed 17 t g) refl refl refl refl (completed_lands 17 t g))
changes_come names s f slot c false is onward =
    let next = next_number s.registers in
    let t = noted (change_rows s f slot c) s in
    waits_comes names t f (with_change slot next c f) next c refl refl (changed_fewer f slot next c is) onward

comes_call : (names : List (List ℕ)) (s : Kept) (f : Flight) (o : Option CallMade) (c : CallMade) (go : CallMade → After Arrived) (never : After Arrived) → o ≡ Some c
    → Comes names s f (go c) → Comes names s f (call_or_none o go never)
comes_call names s f None c go never e h = cc
comes_call names s f (Some d) c go never e h = (let is : c ≡ d = cc in let P : CallMade → Type 0 = λ x. Comes names s f (go x) in subst P is h)

moves_come : (names : List (List ℕ)) (s : Kept) (f : Flight) (ran : Ran) → flight_run s f ≡ ran → (o : Option ℕ) → first_other f.calls (calls_in ran) ≡ o
    → Comes names s f (moved s f ran (change_or o (by_run ran)))
moves_come names s f ran is (Some slot) e =
    let at = is_other f.calls (calls_in ran) slot e in
    let onward = got (IsOnward (me s) s.setting.peers f.request) (calls_in ran) slot at.call at.there (onwards s f ran is) in
    comes_call names s f (slice_get (calls_in ran) slot) at.call (λ c. changed s f slot c) (committed s f (trace_or_dead ran)) at.there
    (changes_come names s f slot at.call (nat_le 3 f.changes) refl onward)
moves_come names s f (Done t) is None e = committed_comes names s f t
moves_come names s f (Wants slot calls c) is None e =
    let next = next_number s.registers in
    let t = noted (named next c ∷ []) s in
    let onward = (each_behind (IsOnward (me s) s.setting.peers f.request) calls (c ∷ []) (onwards s f (Wants slot calls c) is)).0 in
    waits_comes names t f (with_slot next c f) next c refl refl (named_fewer f next c (few_numbers s f slot calls c is)) onward

pub goes_on_comes : (names : List (List ℕ)) (s : Kept) (f : Flight) → Comes names s f (goes_on s f)
unfolding goes_on
goes_on_comes names s f = moves_come names s f (flight_run s f) refl (first_other f.calls (calls_in (flight_run s f))) refl
