-- Which calls are told why they consume the tentative answer, and what, in events of live requests.
use Rattle.std.proofs.Common.{◌≡◌, ℕ, suc, ◌+◌, Bool, true, false, ◌&&◌, List, [], ◌∷◌, ◌++◌, Option, Some, None, IsSomeAnd, Result, Ok, Err, IfOk, OnOk, is_some, length, nat_le, replicate, slice_get, drop, refl, sym, ap, ◌∙◌, subst, inl, inr, arith, eq-eqb, eqb-true, append-nil, append_assoc, if◌then◌else◌}
use Rattle.std.proofs.lemmas.Bool.{cases_Bool, cond_both}
use Rattle.std.proofs.lemmas.List.{length-map}
use Rattle.lang_core.specs.declared.ids.Origin.{Origin}
use Rattle.lang_core.specs.declared.ids.Origin.TheVariants.{Outside, Call}
use Rattle.lang_core.specs.declared.inputs.Inputs.{Inputs}
use Rattle.lang_core.specs.declared.request.Request.{Request}
use Rattle.lang_core.specs.declared.trace.CallMade.{CallMade}
use Rattle.lang_core.specs.declared.trace.Trace.{Trace}
use Rattle.handler_run.specs.declared.state.Ran.{Ran}
use Rattle.handler_run.specs.declared.state.Ran.TheVariants.{Done, Wants}
use Rattle.repair_messages.specs.declared.messages.AnswerMessage.{AnswerMessage}
use Rattle.journal_rows.specs.declared.caller.AckHow.TheVariants.{WithAnswer}
use Rattle.journal_rows.specs.declared.caller.SentRow.{SentRow}
use Rattle.journal_rows.specs.declared.row.Row.{Row}
use Rattle.journal_rows.specs.declared.row.Row.TheVariants.{Asked, Sent, SawAck, Noted, SawAnswer}
use Rattle.call_registers.specs.Changes.{raised}
use Rattle.call_registers.specs.Registers.{first_register, IsNumbered, CountFrom, has_number, register, next_number, at_number, sent_anew, with_ack, with_answer, with_note, with_cause, is_newer}
use Rattle.call_registers.specs.declared.register.Answer.{Answer}
use Rattle.call_registers.specs.declared.register.Register.{Register}
use Rattle.call_registers.specs.declared.register.Why.{Why}
use Rattle.call_registers.specs.declared.register.Why.TheVariants.{Changes as TooManyChanges}
use Rattle.flights.specs.Moves.{calls_in, first_other, by_run, change_or, next_move}
use Rattle.flights.specs.declared.flight.Flight.{Flight}
use Rattle.flights.specs.declared.flight.Move.{Move}
use Rattle.flights.specs.declared.flight.Move.TheVariants.{Commit, Name, Change}
use Rattle.service_events.specs.State.{Kept, After, after, flight_of, next_id}
use Rattle.service_events.specs.Arriving.{new_flight, live_answer_rows, told, is_new_to, seen_live}
use Rattle.service_events.specs.Calls.{version_of, first_sent, put_sent, seen_answer, after_row, after_rows, noted, named, all_deleted}
use Rattle.service_events.specs.Causes.{causes_in, causes, is_fourth_change, AddsCauses, TellsAnswered, TellsFailed}
use Rattle.service_events.specs.Flying.{flight_run, surplus_rows, took_rows, before_answer, live_answer, committed, with_slot, with_change, deletion, change_rows, named_unsent, changed_unsent}
use Rattle.service_events.specs.RunsOn.{Ends, TakesUnsent, Completes, Changes, Moves, GoesOn, GoesOnTo, Begins}
use Rattle.service_events.specs.declared.answers.Arrived.{Arrived}
use Rattle.service_events.specs.declared.answers.Arrived.TheVariants.{Done as Committed, Call as Sends, Known}
use Rattle.service_events.proofs.AloftLemmas.{AnyNumber, answer_number, IsNot, named_is, named_became, put_deleted, changed_became, untold_became}
use Rattle.service_events.proofs.OwnLemmas.{numbered_changed}
use Rattle.service_events.proofs.CallRowLemmas.{Each, each_append}

-- ---- changes that tell of no cause

pub same_causes : (n : ℕ) (f : Register → Register) → ((r : Register) → (f r).told ≡ r.told) → (rs : List Register) → causes_in (at_number n f rs) ≡ causes_in rs
same_causes n f keeps [] = refl
same_causes n f keeps (r ∷ rs) = elim (cases_Bool (has_number n r)) [
  | inl is ↦ rw is (ap (λ w. w ∷ causes_in rs) (keeps r))
  | inr other ↦ rw other (ap (λ ws. r.told ∷ ws) (same_causes n f keeps rs))
]

answer_tells : (x : Answer) (r : Register) → (with_answer x r).told ≡ r.told
answer_tells x r = cond_both (is_newer r.answer x.answer_version) (record r { answer = Some x }) r (λ (y : Register). y.told ≡ r.told) (λ _. refl) (λ _. refl)

-- the row names no call
abbrev IsUnnaming : Row → Type 0
IsUnnaming (Sent s) = s.desired ≡ None
IsUnnaming row = Unit {0}

put_tells : (at : ℕ) (s : SentRow) (o : Option Register) (rs : List Register) → s.desired ≡ None → causes_in (put_sent at s o rs) ≡ causes_in rs
put_tells at s None rs gone = ap (λ d. causes_in (first_sent at s d rs)) gone
put_tells at s (Some r) rs gone = same_causes s.number (sent_anew s.desired at) (λ x. refl) rs

pub row_tells : (at : ℕ) (rs : List Register) (row : Row) → IsUnnaming row → causes_in (after_row at rs row) ≡ causes_in rs
row_tells at rs (Sent s) gone = put_tells at s (register s.number rs) rs gone
row_tells at rs (SawAck a) h = same_causes a.number (with_ack a.version) (λ r. refl) rs
row_tells at rs (Noted t) h = same_causes t.number (with_note t.answer_version t.who t.rule at) (λ r. refl) rs
row_tells at rs (SawAnswer a) h = same_causes a.number (with_answer (seen_answer a)) (answer_tells (seen_answer a)) rs
row_tells at rs row h = refl

rows_tell : (at : ℕ) (rs : List Register) (rows : List Row) → Each IsUnnaming rows → causes_in (after_rows at rs rows) ≡ causes_in rs
rows_tell at rs [] h = refl
rows_tell at rs (row ∷ rows) h = rows_tell (at + 1) (after_row at rs row) rows h.1 ∙ row_tells at rs row h.0

deleted_unnaming : (rs : List Register) (ns : List ℕ) (cs : List CallMade) → Each IsUnnaming (all_deleted rs ns cs)
deleted_unnaming rs [] cs = tt
deleted_unnaming rs (n ∷ ns) [] = tt
deleted_unnaming rs (n ∷ ns) (c ∷ cs) = (refl, deleted_unnaming rs ns cs)

took_unnaming : (o : Origin) (q : Request) → Each IsUnnaming (took_rows o q)
took_unnaming Outside q = tt
took_unnaming (Call c n) q = (tt, tt)

committed_tells : (s : Kept) (f : Flight) (t : Trace) → causes (committed s f t).service ≡ causes s
committed_tells s f t =
    let surplus = surplus_rows s f t in
    let behind = drop (length t.calls) f.numbers in
    let asks = Asked (record { id = next_id s; origin = f.origin; request = f.request; inputs = f.inputs; program = f.program.number }) ∷ took_rows f.origin f.request in
    let unnaming = each_append IsUnnaming surplus asks (deleted_unnaming s.registers behind (drop (length t.calls) f.calls)) (tt, took_unnaming f.origin f.request) in
    rows_tell (length s.journal) s.registers (before_answer s f t ++ live_answer s f t ∷ [])
    (each_append IsUnnaming (before_answer s f t) (live_answer s f t ∷ []) unnaming (tt, tt))

-- ---- a call that is named

pub causes_push : (rs : List Register) (r : Register) → causes_in (rs ++ r ∷ []) ≡ causes_in rs ++ r.told ∷ []
causes_push [] r = refl
causes_push (x ∷ xs) r = ap (λ ws. x.told ∷ ws) (causes_push xs r)

named_tells : (at : ℕ) (rs : List Register) (next : ℕ) (call : CallMade) → next ≡ next_number rs → IsNumbered rs
    → causes_in (after_rows at rs (named next call ∷ [])) ≡ causes_in rs ++ None ∷ []
named_tells at rs next call same h =
    ap causes_in (named_is at rs next call same h) ∙ causes_push rs (first_register (next_number rs) call.dest call.request at)

changed_tells : (at : ℕ) (s : Kept) (old : Option ℕ) (was : Option CallMade) (call : CallMade) → IsNumbered s.registers
    → causes_in (after_rows at s.registers (deletion s old was ++ named (next_number s.registers) call ∷ [])) ≡ causes s ++ None ∷ []
changed_tells at s None was call h = named_tells at s.registers (next_number s.registers) call refl h
changed_tells at s (Some n) None call h = named_tells at s.registers (next_number s.registers) call refl h
changed_tells at s (Some n) (Some c) call h =
    let row : SentRow = record { number = n; dest = c.dest; version = raised (version_of s.registers n); desired = None } in
    let first = put_deleted at row (register n s.registers) s.registers refl h in
    let rs = put_sent at row (register n s.registers) s.registers in
    let size = first.many in
    named_tells (at + 1) rs (next_number s.registers) call (omega (arith, size)) first.numbered
    ∙ ap (λ ws. ws ++ None ∷ []) (put_tells at row (register n s.registers) s.registers refl)

-- ---- a call that isn't sent

-- the last register is told why
last_told : (why : Why) (k n : ℕ) (rs : List Register) (ws : List (Option Why)) → CountFrom k rs → causes_in rs ≡ ws ++ None ∷ [] → n ≡ k + length ws
    → causes_in (at_number n (with_cause why) rs) ≡ ws ++ Some why ∷ []
last_told why k n [] [] h e at = cc
last_told why k n [] (w ∷ ws) h e at = cc
last_told why k n (r ∷ rs) [] h e at =
    let first = h.0 in
    let at_first : n ≡ k = omega (arith, at) in
    let here : has_number n r ≡ true = eq-eqb r.number n (first ∙ sym at_first) in
    let rest : causes_in rs ≡ [] = cc in
    rw here (ap (λ ws. Some why ∷ ws) rest)
last_told why k n (r ∷ rs) (w ∷ ws) h e at = elim (cases_Bool (has_number n r)) [
  | inl is ↦ (let same = eqb-true r.number n is in let first = h.0 in absurd (omega (arith, same, first, at)))
  | inr other ↦ (let head : r.told ≡ w = cc in
      let rest : causes_in rs ≡ ws ++ None ∷ [] = cc in
      rw other (ap (λ x. x ∷ causes_in (at_number n (with_cause why) rs)) head ∙ ap (λ xs. w ∷ xs) (last_told why (k + 1) n rs ws h.1 rest (omega (arith, at)))))
]

unsent_tells : (s t : Kept) → IsNumbered t.registers → causes t ≡ causes s ++ None ∷ []
    → causes_in (at_number (next_number s.registers) (with_cause TooManyChanges) t.registers) ≡ causes s ++ Some TooManyChanges ∷ []
unsent_tells s t h e =
    let size = length-map s.registers (λ (r : Register). r.told) in
    last_told TooManyChanges 1 (next_number s.registers) t.registers (causes s) h e (omega (arith, size))

named_unsent_tells : (s : Kept) (c : CallMade) → IsNumbered s.registers → causes (named_unsent s c) ≡ causes s ++ Some TooManyChanges ∷ []
named_unsent_tells s c h =
    let next = next_number s.registers in
    let at = length s.journal in
    unsent_tells s (noted (named next c ∷ []) s) (named_became at s.registers next c refl h).numbered (named_tells at s.registers next c refl h)

changed_unsent_tells : (s : Kept) (f : Flight) (slot : ℕ) (c : CallMade) → IsNumbered s.registers → causes (changed_unsent s f slot c) ≡ causes s ++ Some TooManyChanges ∷ []
changed_unsent_tells s f slot c h =
    let at = length s.journal in
    let number = slice_get f.numbers slot in
    let was = slice_get f.calls slot in
    unsent_tells s (noted (change_rows s f slot c) s) (changed_became at s number was c h).numbered (changed_tells at s number was c h)

named_unsent_numbered : (s : Kept) (c : CallMade) → IsNumbered s.registers → IsNumbered (named_unsent s c).registers
named_unsent_numbered s c h =
    let next = next_number s.registers in
    let rs = after_rows (length s.journal) s.registers (named next c ∷ []) in
    (untold_became next TooManyChanges s.registers rs AnyNumber (named_became (length s.journal) s.registers next c refl h)).numbered

changed_unsent_numbered : (s : Kept) (f : Flight) (slot : ℕ) (c : CallMade) → IsNumbered s.registers → IsNumbered (changed_unsent s f slot c).registers
changed_unsent_numbered s f slot c h =
    let next = next_number s.registers in
    let rs = after_rows (length s.journal) s.registers (change_rows s f slot c) in
    let number = slice_get f.numbers slot in
    (untold_became next TooManyChanges s.registers rs (IsNot number) (changed_became (length s.journal) s number (slice_get f.calls slot) c h)).numbered

-- ---- a flight that goes on

ends_tell : (s : Kept) (f : Flight) (ran : Ran) (move : Move) (a : After Arrived) → Ends s f ran move a → causes a.service ≡ causes s
ends_tell s f ran Commit a x = ap (λ (b : After Arrived). causes b.service) x.2 ∙ committed_tells s f x.0
ends_tell s f ran Name a x = absurd x
ends_tell s f ran (Change slot) a x = absurd x

takes_tell : (s : Kept) (f : Flight) (ran : Ran) (move : Move) (c : CallMade) (Then : Kept → Flight → Type 0) (a : After Arrived) (ws : List (Option Why)) → IsNumbered s.registers
    → ((t : Kept) (g : Flight) → IsNumbered t.registers → Then t g → causes a.service ≡ causes t ++ ws)
    → TakesUnsent s f ran move c Then → causes a.service ≡ causes s ++ Some TooManyChanges ∷ ws
takes_tell s f ran Commit c Then a ws h goes x = absurd x
takes_tell s f ran Name c Then a ws h goes x =
    goes (named_unsent s c) (with_slot (next_number s.registers) c f) (named_unsent_numbered s c h) x.1
    ∙ ap (λ zs. zs ++ ws) (named_unsent_tells s c h) ∙ append_assoc (causes s) (Some TooManyChanges ∷ []) ws
takes_tell s f ran (Change slot) c Then a ws h goes x =
    goes (changed_unsent s f slot c) (with_change slot (next_number s.registers) c f) (changed_unsent_numbered s f slot c h) x.1
    ∙ ap (λ zs. zs ++ ws) (changed_unsent_tells s f slot c h) ∙ append_assoc (causes s) (Some TooManyChanges ∷ []) ws

completes_tell : (calls : List CallMade) (s : Kept) (f : Flight) (a : After Arrived) → IsNumbered s.registers → Completes calls s f a
    → causes a.service ≡ causes s ++ replicate (length calls) (Some TooManyChanges)
completes_tell [] s f a h x = ends_tell s f (flight_run s f) (next_move f (flight_run s f)) a x ∙ sym (append-nil (causes s))
completes_tell (c ∷ cs) s f a h x =
    takes_tell s f (flight_run s f) (next_move f (flight_run s f)) c (λ t g. Completes cs t g a) a (replicate (length cs) (Some TooManyChanges)) h
    (λ t g numbered y. completes_tell cs t g a numbered y) x

changes_add : (many : Bool) (s : Kept) (f : Flight) (slot : ℕ) (c : CallMade) (a : After Arrived) → IsNumbered s.registers → Changes many s f slot c a
    → AddsCauses (causes s) many a.service
changes_add true s f slot c a h x =
    let t = changed_unsent s f slot c in
    let g = with_change slot (next_number s.registers) c f in
    let rest = replicate (length x.0) (Some TooManyChanges) in
    record {
      count = suc (length x.0);
      are = completes_tell x.0 t g a (changed_unsent_numbered s f slot c h) x.1
          ∙ ap (λ zs. zs ++ rest) (changed_unsent_tells s f slot c h) ∙ append_assoc (causes s) (Some TooManyChanges ∷ []) rest;
      some = λ _. omega arith;
    }
changes_add false s f slot c a h x =
    record {
      count = 1;
      are = ap (λ (b : After Arrived). causes b.service) x ∙ changed_tells (length s.journal) s (slice_get f.numbers slot) (slice_get f.calls slot) c h;
      some = λ yes. cc;
    }

moves_add : (s : Kept) (f : Flight) (ran : Ran) (o : Option ℕ) (a : After Arrived) → IsNumbered s.registers → Moves s f ran (change_or o (by_run ran)) a
    → AddsCauses (causes s) (is_some o && nat_le 3 f.changes) a.service
moves_add s f ran (Some slot) a h x = changes_add (nat_le 3 f.changes) s f slot x.0 a h x.2
moves_add s f (Done t) None a h x =
    record { count = 0; are = ends_tell s f (Done t) Commit a x ∙ sym (append-nil (causes s)); some = λ yes. cc }
moves_add s f (Wants place made c) None a h x =
    record {
      count = 1;
      are = ap (λ (b : After Arrived). causes b.service) x.2 ∙ named_tells (length s.journal) s.registers (next_number s.registers) x.0 refl h;
      some = λ yes. cc;
    }

goes_on_adds : (s : Kept) (f : Flight) (a : After Arrived) → IsNumbered s.registers → GoesOn s f a → AddsCauses (causes s) (is_fourth_change s f) a.service
goes_on_adds s f a h x = moves_add s f (flight_run s f) (first_other f.calls (calls_in (flight_run s f))) a h x

-- ---- the events

-- a request that arrives has made no call yet
pub begins_adds : {E : Type 0} (s t : Kept) (o : Origin) (q : Request) (i : Inputs) (r : Result Arrived E) → IsNumbered s.registers
    → IfOk r (λ arrived. Begins s (new_flight s o q i) arrived t) → OnOk r (AddsCauses (causes s) false t)
begins_adds s t o q i (Err why) h x = tt
begins_adds s t o q i (Ok (Committed index id back)) h x = goes_on_adds s (new_flight s o q i) (after t (Committed index id back)) h x.goes
begins_adds s t o q i (Ok (Sends flight set)) h x = goes_on_adds s (new_flight s o q i) (after t (Sends flight set)) h x.goes
begins_adds s t o q i (Ok (Known m)) h x = record { count = 0; are = ap causes x ∙ sym (append-nil (causes s)); some = λ yes. cc }

flight_adds : (s t : Kept) (o : Option Flight) (arrived : Arrived) → IsNumbered s.registers → IsSomeAnd o (λ f. GoesOnTo s f (after t arrived))
    → IsSomeAnd o (λ f. AddsCauses (causes s) (is_fourth_change s f) t)
flight_adds s t None arrived h x = x
flight_adds s t (Some f) arrived h x = goes_on_adds s f (after t arrived) h x.goes

pub failed_adds : {E : Type 0} (s t : Kept) (id number : ℕ) (why : Why) (r : Result Arrived E) → IsNumbered s.registers
    → IfOk r (λ arrived. IsSomeAnd (flight_of id s) (λ f. GoesOnTo (told number why s) f (after t arrived))) → TellsFailed id number why s r t
failed_adds s t id number why (Err other) h x = tt
failed_adds s t id number why (Ok arrived) h x =
    flight_adds (told number why s) t (flight_of id s) arrived (numbered_changed number (with_cause why) (λ r. refl) s.registers h) x

live_rows_tell : (at : ℕ) (rs : List Register) (a : AnswerMessage) (new : Bool)
    → causes_in (after_rows at rs (SawAck (record { number = a.number; version = a.version; how = WithAnswer a.answer_version }) ∷ (if new then seen_live a ∷ [] else []))) ≡ causes_in rs
live_rows_tell at rs a true = rows_tell at rs (SawAck (record { number = a.number; version = a.version; how = WithAnswer a.answer_version }) ∷ seen_live a ∷ []) (tt, (tt, tt))
live_rows_tell at rs a false = rows_tell at rs (SawAck (record { number = a.number; version = a.version; how = WithAnswer a.answer_version }) ∷ []) (tt, tt)

live_rows_numbered : (at : ℕ) (rs : List Register) (a : AnswerMessage) (new : Bool) → IsNumbered rs
    → IsNumbered (after_rows at rs (SawAck (record { number = a.number; version = a.version; how = WithAnswer a.answer_version }) ∷ (if new then seen_live a ∷ [] else [])))
live_rows_numbered at rs a new h = heard new
  where
    acked : IsNumbered (at_number a.number (with_ack a.version) rs)
    acked = numbered_changed a.number (with_ack a.version) (λ r. refl) rs h

    heard : (b : Bool) → IsNumbered (after_rows (at + 1) (at_number a.number (with_ack a.version) rs) (if b then seen_live a ∷ [] else []))
    heard true =
        let x : Answer = record { answer_version = a.answer_version; version = a.version; response = a.response } in
        numbered_changed a.number (with_answer x) (answer_number x) (at_number a.number (with_ack a.version) rs) acked
    heard false = acked

pub answered_adds : {E : Type 0} (s t : Kept) (id : ℕ) (a : AnswerMessage) (r : Result Arrived E) → IsNumbered s.registers
    → IfOk r (λ arrived. IsSomeAnd (flight_of id s) (λ f. GoesOnTo (noted (live_answer_rows s a) s) f (after t arrived))) → TellsAnswered id a s r t
answered_adds s t id a (Err other) h x = tt
answered_adds s t id a (Ok arrived) h x =
    let new = is_new_to a (register a.number s.registers) in
    let heard = noted (live_answer_rows s a) s in
    let Adds : List (Option Why) → Type 0 = λ ws. IsSomeAnd (flight_of id s) (λ f. AddsCauses ws (is_fourth_change heard f) t) in
    subst Adds (live_rows_tell (length s.journal) s.registers a new)
    (flight_adds heard t (flight_of id s) arrived (live_rows_numbered (length s.journal) s.registers a new h) x)
