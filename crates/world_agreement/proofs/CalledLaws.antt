-- Where nothing is outstanding, each request of a call that is wanted was called for.
use Rattle.std.proofs.Common.{◌≡◌, ℕ, ◌<◌, true, false, List, [], ◌∷◌, Option, Some, None, IfSome, IsSomeAnd, All, Any, Contains, map, nat_eq, is_some, option_map, inl, inr, refl, sym, ap, ◌∙◌, subst, arith, eqb-true}
use Rattle.std.specs.Option.{option_map_or}
use Rattle.std.proofs.lemmas.Bool.{cases_Bool, cond-false, cases_lt}
use Rattle.std.proofs.lemmas.List.Elements.{All-contains, All-map, Contains-append_right}
use Rattle.lang_core.specs.declared.ids.Origin.{Origin}
use Rattle.lang_core.specs.declared.ids.Origin.TheVariants.{Outside, Call}
use Rattle.lang_core.specs.declared.request.Request.{Request}
use Rattle.lang_core.specs.declared.trace.CallMade.{CallMade}
use Rattle.execution.specs.Executions.{IsEmptyIfDead}
use Rattle.execution.specs.Together.{history_in, IsAmong, Makes, IsCalledFor, WantedIsCalledFor}
use Rattle.request_log.specs.Entries.{is_alive}
use Rattle.request_log.specs.Records.{record_in}
use Rattle.request_log.specs.declared.entry.Entry.{Entry}
use Rattle.request_log.specs.declared.entry.Made.{Made}
use Rattle.local_repair.specs.Histories.{deed_in, act_of}
use Rattle.local_repair.specs.Steps.{calls_of_made}
use Rattle.journal_rows.specs.Words.{last_sent, last_taken, wants}
use Rattle.journal_rows.specs.declared.callee.TookRow.{TookRow}
use Rattle.journal_rows.specs.declared.caller.SentRow.{SentRow}
use Rattle.journal_rows.specs.declared.row.Row.TheVariants.{Took}
use Rattle.call_registers.specs.Registers.{register}
use Rattle.call_registers.specs.declared.register.Register.{Register}
use Rattle.service_events.specs.State.{Kept, me, answers}
use Rattle.service_events.specs.Fits.{IsAsNow, sent_by, calls_of_entry, calls_of_flight, call_to, call_in, wanted_call, count, times_held}
use Rattle.service_events.proofs.PlaceLemmas.{head_of, tail_of, times_held-append}
use Rattle.world_agreement.specs.Partners.{service_of, JournalOf, HasSent}
use Rattle.world_agreement.specs.Legal.{history, histories}
use Rattle.service_events.proofs.SearchLemmas.{contains_here}
use Rattle.world_agreement.proofs.ListLemmas.{some_out, all_from, any_from, contains_map}
use Rattle.world_agreement.proofs.NameLemmas.{found_by_name, name_is, found_history, found_own}
use Rattle.world_agreement.proofs.SentFacts.{IsSentBefore, sent_before}
use Rattle.world_agreement.proofs.TakenFacts.{taken_from}
use Rattle.world_agreement.proofs.EntryFacts.{IsMadeNow, each_made_now, asks_last}
use Rattle.world_agreement.proofs.ReplayLaws.{each_empty_if_dead}
use Rattle.world_agreement.proofs.Settled.{AreAtRest, fits_of, quiet_of, partner, settled}
use Rattle.world_agreement.proofs.ServedLaws.{wants_calls}

-- ---- where a number stands

some_place : (n : ℕ) (entries : List Entry) → 0 < times_held n (map calls_of_entry entries) → (e : Entry) × Contains entries e × (0 < count n e.slots)
some_place n [] h = absurd (omega (arith, h))
some_place n (e ∷ es) h = elim (cases_lt 0 (count n e.slots)) [
  | inl here ↦ (e, contains_here e es, here)
  | inr none ↦ (let later = some_place n es (omega (arith, h, none)) in (later.0, Contains-append_right (e ∷ []) es later.0 later.1, later.2))
]

among : (registers : List Register) (n : ℕ) (call : CallMade) → wanted_call registers n ≡ Some call → (ns : List ℕ) (cs : List CallMade)
    → map (wanted_call registers) ns ≡ map Some cs → 0 < count n ns → IsAmong n call ns cs
among registers n call is [] cs e h = absurd (omega (arith, h))
among registers n call is (m ∷ ms) [] e h = cc
among registers n call is (m ∷ ms) (c ∷ cs) e h = elim (cases_Bool (nat_eq m n)) [
  | inl this ↦ (let same : m ≡ n = eqb-true m n this in
      let head : wanted_call registers m ≡ Some c = head_of (wanted_call registers m) (Some c) (map (wanted_call registers) ms) (map Some cs) e in
      let both : Some c ≡ Some call = sym head ∙ ap (wanted_call registers) same ∙ is in
      let it : c ≡ call = cc in
      inl (same, it))
  | inr other ↦ inr (among registers n call is ms cs (tail_of (wanted_call registers m) (Some c) (map (wanted_call registers) ms) (map Some cs) e)
      (let one : ℕ = 1 in let nought : ℕ = 0 in let none = cond-false (nat_eq m n) one nought other in omega (arith, none, h)))
]

not_among : (n : ℕ) (call : CallMade) (ns : List ℕ) → IsAmong n call ns [] → ⊥
not_among n call [] h = h
not_among n call (m ∷ ms) h = h

-- an entry with a call survives
makes : (e : Entry) (n : ℕ) (call : CallMade) (o : Option Made) → IsSomeAnd o (IsMadeNow e)
    → (is_alive e ≡ false → IfSome (option_map deed_in (option_map record_in o)) (λ d. d.calls ≡ []))
    → IsAmong n call e.slots (calls_of_made o) → (is_alive e ≡ true) × IsSomeAnd (option_map deed_in (option_map record_in o)) (λ d. IsAmong n call e.slots d.calls)
makes e n call None made empty has = absurd made
makes e n call (Some m) made empty has = elim (cases_Bool (is_alive e)) [
  | inl live ↦ (live, has)
  | inr dead ↦ absurd (not_among n call e.slots (subst (λ cs. IsAmong n call e.slots cs) (empty dead) has))
]

-- ---- who calls

taken_some : (o : Option TookRow) → option_map_or (λ (x : TookRow). is_some x.desired) o false ≡ true
    → (x : TookRow) × (o ≡ Some x) × ((q : Request) × (x.desired ≡ Some q))
taken_some None h = cc
taken_some (Some x) h = (x, refl, desired x.desired h)
  where
    desired : (d : Option Request) → is_some d ≡ true → (q : Request) × (d ≡ Some q)
    desired None h = cc
    desired (Some q) h = (q, refl)

-- the register of a number of which a row says what was sent last
pub record Sends (s : Kept) (n : ℕ) (l : SentRow) : Type 0 where
  pub r : Register
  pub found : register n s.registers ≡ Some r
  pub is : sent_by r ≡ l

sends_by : (s : Kept) (n : ℕ) (l : SentRow) (o : Option Register) → register n s.registers ≡ o → option_map sent_by o ≡ Some l → Sends s n l
sends_by s n l None is e = cc
sends_by s n l (Some r) is e = record { r = r; found = is; is = (let same : sent_by r ≡ l = cc in same) }

module _ (services : List Kept) (h : AreAtRest services) where
  -- a call that is wanted is one of a request that survives
  made_by : (s : Kept) (here : service_of (me s) services ≡ Some s) (n : ℕ) (call : CallMade) → wanted_call s.registers n ≡ Some call
      → Any (Makes n call) (history s).acts
  made_by s here n call is =
      let fits = fits_of services h.together (me s) s here in
      let quiet = quiet_of services h (me s) s here in
      let one = fits.places.once n ∙ ap (λ o. option_map_or (λ (c : CallMade). 1) o 0) is in
      let both = times_held-append n (map calls_of_entry s.entries) (map calls_of_flight s.flights) in
      let none : times_held n (map calls_of_flight s.flights) ≡ 0 = ap (λ fs. times_held n (map calls_of_flight fs)) quiet.landed in
      let place = some_place n s.entries (omega (arith, one, both, none)) in
      let e = place.0 in
      let has = among s.registers n call is e.slots (calls_of_made e.made) (wants_calls s fits e place.1) place.2 in
      let made = All-contains (λ y. IsSomeAnd y.made (IsMadeNow y)) s.entries e (each_made_now s fits quiet.current) place.1 in
      let act = contains_map (act_of (answers s)) s.entries e place.1 in
      let empty = All-contains IsEmptyIfDead (history s).acts (act_of (answers s) e) (each_empty_if_dead s fits quiet.current) act in
      let m = makes e n call e.made made empty has in
      any_from (Makes n call) (history s).acts (act_of (answers s) e) act (record { survives = m.0; makes = m.1 })

  module _ (t : Kept) (there : service_of (me t) services ≡ Some t) where
    -- what the caller wants now is what was taken last
    wants_it : (c : List ℕ) (n : ℕ) (x : TookRow) → last_taken c n t.journal ≡ Some x → (s : Kept) → me s ≡ c → (here : service_of (me s) services ≡ Some s)
        → (r : Register) (found : register n s.registers ≡ Some r) → r.dest ≡ me t → r.desired ≡ x.desired
    wants_it c n x took s name here r found dest =
        let z = settled services h s here n r found in
        let both : Some z.callee ≡ Some t = sym z.there ∙ ap (λ d. service_of d services) dest ∙ there in
        let same : z.callee ≡ t = cc in
        let mine : last_taken c n t.journal ≡ Some z.last =
        subst (λ (u : Kept). last_taken c n u.journal ≡ Some z.last) same (subst (λ d. last_taken d n (z.callee).journal ≡ Some z.last) name z.taken) in
        let is : Some z.last ≡ Some x = sym mine ∙ took in
        let one : z.last ≡ x = cc in
        sym z.desired ∙ ap (λ (y : TookRow). y.desired) one

    -- the caller of a version that was taken last has a request that makes the call
    called_by : (c : List ℕ) (n : ℕ) (x : TookRow) (q : Request) → last_taken c n t.journal ≡ Some x → x.desired ≡ Some q
        → IsSomeAnd (history_in c (histories services)) (λ y. Any (Makes n (record { dest = me t; request = q })) y.acts)
    called_by c n x q took desired =
        let row = subst (λ o. IfSome o (λ y. ((y.caller ≡ c) × (y.number ≡ n)) × Contains t.journal (Took y))) took (taken_from c n t.journal) in
        let At : List ℕ → ℕ → Type 0 = λ d m. JournalOf services d (HasSent (me t) m x.version x.desired) in
        let Of : List ℕ → Type 0 = λ d. At d n in
        let sent_there = subst Of row.0.0 (subst (At x.caller) row.0.1 (partner services h.together (me t) t there (Took x) row.1)) in
        let caller = some_out (service_of c services) (λ s. HasSent (me t) n x.version x.desired s.journal) sent_there in
        let s = caller.0 in
        let name : me s ≡ c = name_is c services s caller.1 in
        let here : service_of (me s) services ≡ Some s = ap (λ d. service_of d services) name ∙ caller.1 in
        let fits = fits_of services h.together (me s) s here in
        let sent : SentRow = record { number = n; dest = me t; version = x.version; desired = x.desired } in
        let last = some_out (last_sent n s.journal) (IsSentBefore sent) (sent_before sent s.journal fits.sent.rows caller.2) in
        let of = sends_by s n last.0 (register n s.registers) refl (fits.sent.registers n ∙ last.1) in
        let dest : (of.r).dest ≡ me t = ap (λ (y : SentRow). y.dest) of.is ∙ sym (last.2).dest in
        let wants : (of.r).desired ≡ Some q = wants_it c n x took s name here of.r of.found dest ∙ desired in
        let is : wanted_call s.registers n ≡ Some (record { dest = me t; request = q }) =
        ap call_in of.found ∙ ap (call_to (of.r).dest) wants ∙ ap (λ d. call_to d (Some q)) dest in
        subst (λ o. IsSomeAnd o (λ y. Any (Makes n (record { dest = me t; request = q })) y.acts)) (sym (found_history c services s caller.1))
        (made_by s here n (record { dest = me t; request = q }) is)

    called_for : (f : Entry) → Contains t.entries f → f.wanted ≡ true → (o : Origin) → f.origin ≡ o → IsCalledFor (histories services) (me t) (act_of (answers t) f) o
    called_for f has wanted Outside from = tt
    called_for f has wanted (Call c n) from =
        let fits = fits_of services h.together (me t) t there in
        let now = All-contains (IsAsNow t.journal) t.entries f fits.asked.now has in
        let last = taken_some (last_taken c n t.journal) (ap (λ o. wants o t.journal) (sym from) ∙ sym now.wanted ∙ wanted) in
        let q = last.2 in
        let asks : f.request ≡ q.0 = asks_last t fits c n last.0 last.1 q.0 q.1 f (found_own t.entries f fits.asked.distinct has) from in
        subst (λ r. IsSomeAnd (history_in c (histories services)) (λ y. Any (Makes n (record { dest = me t; request = r })) y.acts)) (sym asks)
        (called_by c n last.0 q.0 last.1 q.1)

  pub all_called_for : All (λ y. All (WantedIsCalledFor (histories services) y) y.acts) (histories services)
  all_called_for =
      All-map (λ y. All (WantedIsCalledFor (histories services) y) y.acts) history services
      (all_from (λ t. All (WantedIsCalledFor (histories services) (history t)) (history t).acts) services (λ t has.
      All-map (WantedIsCalledFor (histories services) (history t)) (act_of (answers t)) t.entries
      (all_from (λ f. WantedIsCalledFor (histories services) (history t) (act_of (answers t) f)) t.entries
      (λ f at wanted. called_for t (found_by_name services h.together.differ t has) f at wanted f.origin refl))))
