-- A flight waits for one call at most: each other is over, by an answer or by why there is none.
use Rattle.std.proofs.Common.{◌≡◌, ℕ, zero, suc, ◌+◌, ◌-◌, ◌<◌, ◌≤◌, ◌⊎◌, Bool, true, List, [], ◌∷◌, ◌++◌, Option, Some, None, IsSome, IsSomeAnd, All, find, fold, length, max, nat_eq, nat_le, option_map, is_some, set, slice_get, take, inl, inr, refl, sym, ◌∙◌, subst, arith, eq-eqb}
use Rattle.std.proofs.Math.Bool.{or-true}
use Rattle.std.proofs.lemmas.Bool.{cases_Bool, cond_both, cond-true}
use Rattle.std.proofs.lemmas.List.Elements.{All-weaker}
use Rattle.lang_core.specs.Traces.{dead_trace}
use Rattle.lang_core.specs.declared.request.Request.{Request}
use Rattle.lang_core.specs.declared.trace.CallMade.{CallMade}
use Rattle.lang_core.specs.declared.trace.Trace.{Trace}
use Rattle.handler_run.specs.declared.state.Ran.{Ran}
use Rattle.request_log.specs.declared.entry.Entry.{Entry}
use Rattle.local_repair.specs.Alone.{trace_or_dead}
use Rattle.journal_rows.specs.declared.caller.SentRow.{SentRow}
use Rattle.journal_rows.specs.declared.row.Row.{Row}
use Rattle.journal_rows.specs.declared.row.Row.TheVariants.{Sent, SawAck, Noted, SawAnswer}
use Rattle.call_registers.proofs.ChangeLemmas.{found_at}
use Rattle.call_registers.specs.Registers.{has_number, register, next_number, at_number, sent_anew, with_ack, with_answer, with_note, with_cause, is_newer, IsNumbered}
use Rattle.call_registers.specs.declared.register.Answer.{Answer}
use Rattle.call_registers.specs.declared.register.Register.{Register}
use Rattle.call_registers.specs.declared.register.Why.{Why}
use Rattle.call_registers.specs.declared.register.Why.TheVariants.{Changes}
use Rattle.flights.specs.Moves.{calls_in, next_move}
use Rattle.flights.specs.declared.flight.Flight.{Flight}
use Rattle.flights.specs.declared.flight.Move.{Move}
use Rattle.flights.specs.declared.flight.Move.TheVariants.{Commit, Name, Change}
use Rattle.service_events.specs.State.{Kept, After}
use Rattle.service_events.specs.Calls.{first_sent, put_sent, after_row, after_rows, noted, named}
use Rattle.service_events.specs.Flying.{awaited, flight_run, before_answer, live_answer, committed_entry, committed, with_slot, with_change, change_rows, waits, wanted_of, named_unsent, changed_unsent, completing, completed, changed, moved, goes_on}
use Rattle.service_events.specs.declared.answers.Arrived.{Arrived}
use Rattle.service_events.specs.declared.answers.Arrived.TheVariants.{Done, Call as Sends, Known}
use Rattle.service_events.proofs.RegisterLemmas.{find-change}
use Rattle.service_events.proofs.CallRowLemmas.{Each, each_append, each_weaker, each_of_all, all_of_each}
use Rattle.service_events.proofs.AloftLemmas.{IsAloft, named_became, changed_became}
use Rattle.service_events.proofs.LiveRuns.{named_aloft, changed_aloft}
use Rattle.service_events.proofs.OwnLemmas.{AreWithin, within_more, within_push, within_set}
use Rattle.world_events.specs.Live.{IsCallOver, WaitsForOne, is_call_over}
use Rattle.service_events.proofs.LiveEntryLaws.{call_keeps}
use Rattle.world_laws.proofs.LivedLaws.{without_all, with_all}

-- ---- a call that is over stays so

-- registers in which each call that was over still is
abbrev pub KeepsOver : List Register → List Register → Type 0
KeepsOver rs rs' = (n : ℕ) → IsCallOver n rs → IsCallOver n rs'

keeps_over_then : (a b c : List Register) → KeepsOver a b → KeepsOver b c → KeepsOver a c
keeps_over_then a b c f g n h = g n (f n h)

-- a change of one register, after which its call is over still
pub record IsSound (f : Register → Register) : Type 0 where
  pub number : (r : Register) → (f r).number ≡ r.number
  pub heard : (r : Register) → is_call_over r ≡ true → is_call_over (f r) ≡ true

pub change_keeps_over : (n : ℕ) (f : Register → Register) → IsSound f → (rs : List Register) → KeepsOver rs (at_number n f rs)
change_keeps_over n f s rs m h =
    subst (λ o. IsSomeAnd o (λ r. is_call_over r ≡ true)) (sym (find-change n m f s.number rs))
    (cond_both (nat_eq n m) (option_map f (register m rs)) (register m rs) (λ o. IsSomeAnd o (λ r. is_call_over r ≡ true)) (λ _. mapped (register m rs) h) (λ _. h))
  where
    mapped : (o : Option Register) → IsSomeAnd o (λ r. is_call_over r ≡ true) → IsSomeAnd (option_map f o) (λ r. is_call_over r ≡ true)
    mapped None h = h
    mapped (Some r) h = s.heard r h

named_sound : (d : Option Request) (at : ℕ) → IsSound (sent_anew d at)
named_sound d at = record { number = λ r. refl; heard = λ r h. h }

ack_sound : (v : ℕ) → IsSound (with_ack v)
ack_sound v = record { number = λ r. refl; heard = λ r h. h }

note_sound : (answer_version : ℕ) (who : List ℕ) (rule since : ℕ) → IsSound (with_note answer_version who rule since)
note_sound answer_version who rule since = record { number = λ r. refl; heard = λ r h. h }

answer_number : (x : Answer) (r : Register) → (with_answer x r).number ≡ r.number
answer_number x r = cond_both (is_newer r.answer x.answer_version) (record r { answer = Some x }) r (λ y. y.number ≡ r.number) (λ _. refl) (λ _. refl)

answer_sound : (x : Answer) → IsSound (with_answer x)
answer_sound x = record {
  number = answer_number x;
  heard = λ r h. cond_both (is_newer r.answer x.answer_version) (record r { answer = Some x }) r (λ y. is_call_over y ≡ true) (λ _. or-true (is_some r.told)) (λ _. h);
}

cause_sound : (why : Why) → IsSound (with_cause why)
cause_sound why = record { number = λ r. refl; heard = λ r h. refl }

-- a call whose register is changed to be over is over
pub over_at : (n : ℕ) (f : Register → Register) → ((r : Register) → (f r).number ≡ r.number) → (rs : List Register) → IsSomeAnd (register n rs) (λ r. is_call_over (f r) ≡ true)
    → IsCallOver n (at_number n f rs)
over_at n f number rs h =
    subst (λ o. IsSomeAnd o (λ r. is_call_over r ≡ true))
    (sym (find-change n n f number rs ∙ cond-true (nat_eq n n) (option_map f (register n rs)) (register n rs) (eq-eqb n n refl))) (mapped (register n rs) h)
  where
    mapped : (o : Option Register) → IsSomeAnd o (λ r. is_call_over (f r) ≡ true) → IsSomeAnd (option_map f o) (λ r. is_call_over r ≡ true)
    mapped None h = h
    mapped (Some r) h = h

pub told_over : (n : ℕ) (why : Why) (rs : List Register) → IsSome (register n rs) → IsCallOver n (at_number n (with_cause why) rs)
told_over n why rs there = over_at n (with_cause why) (λ r. refl) rs (any (register n rs) there)
  where
    any : (o : Option Register) → IsSome o → IsSomeAnd o (λ r. is_call_over (with_cause why r) ≡ true)
    any None h = cc
    any (Some r) h = refl

pub told_keeps_over : (n : ℕ) (why : Why) (rs : List Register) → KeepsOver rs (at_number n (with_cause why) rs)
told_keeps_over n why rs = change_keeps_over n (with_cause why) (cause_sound why) rs

-- ---- rows on own calls

found_front : (p : Register → Bool) (xs ys : List Register) (P : Register → Type 0) → IsSomeAnd (find p xs) P → IsSomeAnd (find p (xs ++ ys)) P
found_front p [] ys P h = absurd h
found_front p (x ∷ xs) ys P h = elim (cases_Bool (p x)) [
  | inl is ↦ (let here : IsSomeAnd (Some x) P = rw is at h in rw is here)
  | inr other ↦ (let later : IsSomeAnd (find p xs) P = rw other at h in rw other (found_front p xs ys P later))
]

first_keeps_over : (at : ℕ) (x : SentRow) (d : Option Request) (rs : List Register) → KeepsOver rs (first_sent at x d rs)
first_keeps_over at x None rs n h = h
first_keeps_over at x (Some q) rs n h = found_front (has_number n) rs _ (λ r. is_call_over r ≡ true) h

put_keeps_over : (at : ℕ) (x : SentRow) (o : Option Register) (rs : List Register) → KeepsOver rs (put_sent at x o rs)
put_keeps_over at x None rs = first_keeps_over at x x.desired rs
put_keeps_over at x (Some r) rs = change_keeps_over x.number (sent_anew x.desired at) (named_sound x.desired at) rs

row_keeps_over : (at : ℕ) (rs : List Register) (row : Row) → KeepsOver rs (after_row at rs row)
row_keeps_over at rs (Sent x) = put_keeps_over at x (register x.number rs) rs
row_keeps_over at rs (SawAck a) = change_keeps_over a.number (with_ack a.version) (ack_sound a.version) rs
row_keeps_over at rs (Noted t) = change_keeps_over t.number (with_note t.answer_version t.who t.rule at) (note_sound t.answer_version t.who t.rule at) rs
row_keeps_over at rs (SawAnswer a) = change_keeps_over a.number _ (answer_sound _) rs
row_keeps_over at rs row = λ n h. h

pub rows_keep_over : (at : ℕ) (rs : List Register) (rows : List Row) → KeepsOver rs (after_rows at rs rows)
rows_keep_over at rs [] = λ n h. h
rows_keep_over at rs (row ∷ rows) =
    keeps_over_then rs (after_row at rs row) (after_rows at rs (row ∷ rows)) (row_keeps_over at rs row) (rows_keep_over (at + 1) (after_row at rs row) rows)

-- ---- a flight's numbers

abbrev pub AllOver : List Register → List ℕ → Type 0
AllOver rs ns = Each (λ n. IsCallOver n rs) ns

pub all_over_still : (rs rs' : List Register) (ns : List ℕ) → KeepsOver rs rs' → AllOver rs ns → AllOver rs' ns
all_over_still rs rs' ns f h = each_weaker (λ n. IsCallOver n rs) (λ n. IsCallOver n rs') f ns h

each_take : {X : Type 0} (P : X → Type 0) (k : ℕ) (xs : List X) → Each P xs → Each P (take k xs)
each_take P zero xs h = tt
each_take P (suc k) [] h = tt
each_take P (suc k) (x ∷ xs) h = (h.0, each_take P k xs h.1)

each_set : {X : Type 0} (P : X → Type 0) (xs : List X) (i : ℕ) (x : X) → Each P xs → P x → Each P (set xs i x)
each_set P [] i x h p = tt
each_set P (y ∷ ys) zero x h p = (p, h.1)
each_set P (y ∷ ys) (suc i) x h p = (h.0, each_set P ys i x h.1 p)

pub waits_still : (rs rs' : List Register) (f : Flight) → KeepsOver rs rs' → WaitsForOne rs f → WaitsForOne rs' f
waits_still rs rs' f hears h = All-weaker (λ n. (awaited f ≤ n) ⊎ IsCallOver n rs) (λ n. (awaited f ≤ n) ⊎ IsCallOver n rs') one f.numbers h
  where
    one : (n : ℕ) → (awaited f ≤ n) ⊎ IsCallOver n rs → (awaited f ≤ n) ⊎ IsCallOver n rs'
    one n (inl last) = inl last
    one n (inr heard) = inr (hears n heard)

max_within : (most a : ℕ) (ns : List ℕ) → a ≤ most → AreWithin most ns → fold max a ns ≤ most
max_within most a [] l h = l
max_within most a (n ∷ ns) l h = (let here = h.0 in max_within most (max a n) ns (omega (arith, l, here)) h.1)

max_above : (a : ℕ) (ns : List ℕ) → (a ≤ fold max a ns) × Each (λ n. n ≤ fold max a ns) ns
max_above a [] = (omega arith, tt)
max_above a (n ∷ ns) =
    let rest = max_above (max a n) ns in
    let least = rest.0 in
    (omega (arith, least), (omega (arith, least), rest.1))

-- once the last one is over, all are
pub others_over : (rs rs' : List Register) (f : Flight) → KeepsOver rs rs' → WaitsForOne rs f → Each (λ n. IsSome (register n rs)) f.numbers
    → (IsSome (register (awaited f) rs) → IsCallOver (awaited f) rs') → AllOver rs' f.numbers
others_over rs rs' f hears h there last =
    both f.numbers (each_of_all (λ n. (awaited f ≤ n) ⊎ IsCallOver n rs) f.numbers h) there (max_above 0 f.numbers).1
  where
    one : (n : ℕ) → (awaited f ≤ n) ⊎ IsCallOver n rs → IsSome (register n rs) → n ≤ awaited f → IsCallOver n rs'
    one n (inl above) some below =
        (let same : awaited f ≡ n = omega (arith, above, below) in
        subst (λ k. IsCallOver k rs') same (last (subst (λ k. IsSome (register k rs)) (sym same) some)))
    one n (inr heard) some below = hears n heard

    both : (ns : List ℕ) → Each (λ n. (awaited f ≤ n) ⊎ IsCallOver n rs) ns → Each (λ n. IsSome (register n rs)) ns → Each (λ n. n ≤ awaited f) ns → AllOver rs' ns
    both [] h some most = tt
    both (n ∷ ns) h some most = (one n h.0 some.0 most.0, both ns h.1 some.1 most.1)

-- a flight with a number above all, which is not over yet
named_waits : (rs rs' : List Register) (next : ℕ) (f : Flight) → KeepsOver rs rs' → AreWithin next f.numbers → (ns : List ℕ) → f.numbers ≡ ns
    → Each (λ n. (next ≤ n) ⊎ IsCallOver n rs) ns → WaitsForOne rs' f
named_waits rs rs' next f hears within ns is h =
    let most = max_within next 0 f.numbers (omega arith) within in
    subst (All (λ n. (awaited f ≤ n) ⊎ IsCallOver n rs')) (sym is)
    (all_of_each (λ n. (awaited f ≤ n) ⊎ IsCallOver n rs') ns
    (each_weaker (λ n. (next ≤ n) ⊎ IsCallOver n rs) (λ n. (awaited f ≤ n) ⊎ IsCallOver n rs') (one most) ns h))
  where
    one : awaited f ≤ next → (n : ℕ) → (next ≤ n) ⊎ IsCallOver n rs → (awaited f ≤ n) ⊎ IsCallOver n rs'
    one most n (inl above) = inl (omega (arith, most, above))
    one most n (inr heard) = inr (hears n heard)

not_yet : (rs : List Register) (ns : List ℕ) → AllOver rs ns → Each (λ n. (next_number rs ≤ n) ⊎ IsCallOver n rs) ns
not_yet rs ns h = each_weaker (λ n. IsCallOver n rs) (λ n. (next_number rs ≤ n) ⊎ IsCallOver n rs) (λ n x. inr x) ns h

-- ---- a flight goes on

-- what it leaves of registers and flights, and of its entry where it is committed
abbrev pub Ends : Kept → Arrived → Type 0
Ends t (Done index id answer) = (front : List Entry) × (e : Entry) × (t.entries ≡ front ++ e ∷ []) × (e.id ≡ id) × AllOver t.registers e.slots
Ends t (Sends flight call) = Unit {0}
Ends t (Known a) = Unit {0}

pub record OverOn (s : Kept) (a : After Arrived) : Type 0 where
  pub hears : KeepsOver s.registers (a.service).registers
  pub flights : All (WaitsForOne s.registers) s.flights → All (WaitsForOne (a.service).registers) (a.service).flights
  pub ends : Ends a.service a.answer

all_still : (rs rs' : List Register) (fs : List Flight) → KeepsOver rs rs' → All (WaitsForOne rs) fs → All (WaitsForOne rs') fs
all_still rs rs' fs hears h = All-weaker (WaitsForOne rs) (WaitsForOne rs') (λ f x. waits_still rs rs' f hears x) fs h

-- what follows, of a service with the same flights
over_after : (s t : Kept) (a : After Arrived) → t.flights ≡ s.flights → KeepsOver s.registers t.registers → OverOn t a → OverOn s a
over_after s t a flights hears h = record {
  hears = keeps_over_then s.registers t.registers (a.service).registers hears h.hears;
  flights = λ all. h.flights (subst (All (WaitsForOne t.registers)) (sym flights) (all_still s.registers t.registers s.flights hears all));
  ends = h.ends;
}

committed_over : (s : Kept) (f : Flight) (t : Trace) → AllOver s.registers f.numbers → OverOn s (committed s f t)
committed_over s f t h =
    let rows = before_answer s f t ++ live_answer s f t ∷ [] in
    let hears = rows_keep_over (length s.journal) s.registers rows in
    record {
      hears = hears;
      flights = λ all. without_all (WaitsForOne (committed s f t).service.registers) f.id s.flights (all_still s.registers (committed s f t).service.registers s.flights hears all);
      ends = (
        s.entries,
        committed_entry s f t,
        refl,
        refl,
        all_over_still s.registers (committed s f t).service.registers (take (length t.calls) f.numbers) hears
            (each_take (λ n. IsCallOver n s.registers) (length t.calls) f.numbers h),
      );
    }

-- it waits for a call with a number above all
waits_on : (s : Kept) (g : Flight) (rows : List Row) (c : CallMade) → AreWithin (next_number s.registers) g.numbers → Each (λ n. (next_number s.registers ≤ n) ⊎ IsCallOver n s.registers) g.numbers
    → OverOn s (waits (noted rows s) g (next_number s.registers) c)
waits_on s g rows c within h =
    let hears = rows_keep_over (length s.journal) s.registers rows in
    let rs = after_rows (length s.journal) s.registers rows in
    record {
      hears = hears;
      flights = λ all. with_all (WaitsForOne rs) g s.flights (named_waits s.registers rs (next_number s.registers) g hears within g.numbers refl h)
          (all_still s.registers rs s.flights hears all);
      ends = tt;
    }

-- a number more, or in the place of one
more_numbers : (rs : List Register) (ns : List ℕ) → AllOver rs ns → Each (λ n. (next_number rs ≤ n) ⊎ IsCallOver n rs) (ns ++ next_number rs ∷ [])
more_numbers rs ns h =
    each_append (λ n. (next_number rs ≤ n) ⊎ IsCallOver n rs) ns (next_number rs ∷ []) (not_yet rs ns h) (inl (omega arith), tt)

other_numbers : (rs : List Register) (ns : List ℕ) (slot : ℕ) → AllOver rs ns → Each (λ n. (next_number rs ≤ n) ⊎ IsCallOver n rs) (set ns slot (next_number rs))
other_numbers rs ns slot h = each_set (λ n. (next_number rs ≤ n) ⊎ IsCallOver n rs) ns slot (next_number rs) (not_yet rs ns h) (inl (omega arith))

within_next : (rs : List Register) (ns : List ℕ) → AreWithin (length rs) ns → AreWithin (next_number rs) ns
within_next rs ns h = within_more (length rs) (next_number rs) ns (omega arith) h

-- a register of the next number is there once it was named
next_there : (rs rs' : List Register) → IsNumbered rs' → length rs' ≡ length rs + 1 → IsSome (register (next_number rs) rs')
next_there rs rs' numbered many =
    subst (λ o. IsSome o) (sym (found_at rs' (next_number rs) numbered (omega arith))) (got rs' (next_number rs - 1) (omega (arith, many)))
  where
    got : (xs : List Register) (k : ℕ) → k < length xs → IsSome (slice_get xs k)
    got [] k l = absurd (omega (arith, l))
    got (x ∷ xs) zero l = refl
    got (x ∷ xs) (suc k) l = got xs k (omega (arith, l))

module _ (s : Kept) (f : Flight) (c : CallMade) (a : IsAloft s.registers f.numbers f.calls) (h : AllOver s.registers f.numbers) where
  abbrev named_registers : List Register
  named_registers = after_rows (length s.journal) s.registers (named (next_number s.registers) c ∷ [])

  unsent_hears : KeepsOver s.registers (named_unsent s c).registers
  unsent_hears =
      keeps_over_then s.registers named_registers (named_unsent s c).registers (rows_keep_over (length s.journal) s.registers (named (next_number s.registers) c ∷ []))
      (told_keeps_over (next_number s.registers) Changes named_registers)

  unsent_heard : AllOver (named_unsent s c).registers (with_slot (next_number s.registers) c f).numbers
  unsent_heard =
      let b = named_became (length s.journal) s.registers (next_number s.registers) c refl a.numbered in
      each_append (λ n. IsCallOver n (named_unsent s c).registers) f.numbers (next_number s.registers ∷ [])
      (all_over_still s.registers (named_unsent s c).registers f.numbers unsent_hears h)
      (told_over (next_number s.registers) Changes named_registers (next_there s.registers named_registers b.numbered b.many), tt)

module _ (s : Kept) (f : Flight) (slot : ℕ) (c : CallMade) (a : IsAloft s.registers f.numbers f.calls) (h : AllOver s.registers f.numbers) where
  abbrev changed_registers : List Register
  changed_registers = after_rows (length s.journal) s.registers (change_rows s f slot c)

  other_hears : KeepsOver s.registers (changed_unsent s f slot c).registers
  other_hears =
      keeps_over_then s.registers changed_registers (changed_unsent s f slot c).registers (rows_keep_over (length s.journal) s.registers (change_rows s f slot c))
      (told_keeps_over (next_number s.registers) Changes changed_registers)

  other_heard : AllOver (changed_unsent s f slot c).registers (with_change slot (next_number s.registers) c f).numbers
  other_heard =
      let b = changed_became (length s.journal) s (slice_get f.numbers slot) (slice_get f.calls slot) c a.numbered in
      each_set (λ n. IsCallOver n (changed_unsent s f slot c).registers) f.numbers slot (next_number s.registers)
      (all_over_still s.registers (changed_unsent s f slot c).registers f.numbers other_hears h)
      (told_over (next_number s.registers) Changes changed_registers (next_there s.registers changed_registers b.numbered b.many))

completing_over : (s : Kept) (f : Flight) (ran : Ran) (move : Move) (again : Kept → Flight → After Arrived) → IsAloft s.registers f.numbers f.calls → AllOver s.registers f.numbers
    → ((t : Kept) (g : Flight) → IsAloft t.registers g.numbers g.calls → AllOver t.registers g.numbers → OverOn t (again t g)) → OverOn s (completing s f ran move again)
completing_over s f ran Commit again a h next = committed_over s f (trace_or_dead ran) h
completing_over s f ran Name again a h next =
    call_keeps (OverOn s) (wanted_of ran) (λ c. again (named_unsent s c) (with_slot (next_number s.registers) c f)) (committed s f (trace_or_dead ran))
    (λ c. over_after s (named_unsent s c) (again (named_unsent s c) (with_slot (next_number s.registers) c f)) refl (unsent_hears s f c a h)
    (next (named_unsent s c) (with_slot (next_number s.registers) c f) (named_aloft s f c a) (unsent_heard s f c a h)))
    (committed_over s f (trace_or_dead ran) h)
completing_over s f ran (Change slot) again a h next =
    call_keeps (OverOn s) (slice_get (calls_in ran) slot) (λ c. again (changed_unsent s f slot c) (with_change slot (next_number s.registers) c f)) (committed s f (trace_or_dead ran))
    (λ c. over_after s (changed_unsent s f slot c) (again (changed_unsent s f slot c) (with_change slot (next_number s.registers) c f)) refl (other_hears s f slot c a h)
    (next (changed_unsent s f slot c) (with_change slot (next_number s.registers) c f) (changed_aloft s f slot c a) (other_heard s f slot c a h)))
    (committed_over s f (trace_or_dead ran) h)

completed_over : (runs : ℕ) (s : Kept) (f : Flight) → IsAloft s.registers f.numbers f.calls → AllOver s.registers f.numbers → OverOn s (completed runs s f)
completed_over zero s f a h = committed_over s f dead_trace h
completed_over (suc runs) s f a h =
    completing_over s f (flight_run s f) (next_move f (flight_run s f)) (completed runs) a h (λ t g. completed_over runs t g)

changed_over : (s : Kept) (f : Flight) (slot : ℕ) (c : CallMade) → IsAloft s.registers f.numbers f.calls → AllOver s.registers f.numbers → OverOn s (changed s f slot c)
changed_over s f slot c a h =
    let g = with_change slot (next_number s.registers) c f in
    cond_both (nat_le 3 f.changes) (completed 17 (changed_unsent s f slot c) g) (waits (noted (change_rows s f slot c) s) g (next_number s.registers) c) (OverOn s)
    (λ _. over_after s (changed_unsent s f slot c) (completed 17 (changed_unsent s f slot c) g) refl (other_hears s f slot c a h)
    (completed_over 17 (changed_unsent s f slot c) g (changed_aloft s f slot c a) (other_heard s f slot c a h)))
    (λ _. waits_on s g (change_rows s f slot c) c
    (within_set (next_number s.registers) f.numbers slot (next_number s.registers) (within_next s.registers f.numbers a.within) (omega arith))
    (other_numbers s.registers f.numbers slot h))

moved_over : (s : Kept) (f : Flight) (ran : Ran) (move : Move) → IsAloft s.registers f.numbers f.calls → AllOver s.registers f.numbers → OverOn s (moved s f ran move)
moved_over s f ran Commit a h = committed_over s f (trace_or_dead ran) h
moved_over s f ran Name a h =
    call_keeps (OverOn s) (wanted_of ran)
    (λ c. waits (noted (named (next_number s.registers) c ∷ []) s) (with_slot (next_number s.registers) c f) (next_number s.registers) c) (committed s f (trace_or_dead ran))
    (λ c. waits_on s (with_slot (next_number s.registers) c f) (named (next_number s.registers) c ∷ []) c
    (within_push (next_number s.registers) f.numbers (next_number s.registers) (within_next s.registers f.numbers a.within) (omega arith)) (more_numbers s.registers f.numbers h))
    (committed_over s f (trace_or_dead ran) h)
moved_over s f ran (Change slot) a h =
    call_keeps (OverOn s) (slice_get (calls_in ran) slot) (λ c. changed s f slot c) (committed s f (trace_or_dead ran)) (λ c. changed_over s f slot c a h)
    (committed_over s f (trace_or_dead ran) h)

pub goes_on_over : (s : Kept) (f : Flight) → IsAloft s.registers f.numbers f.calls → AllOver s.registers f.numbers → OverOn s (goes_on s f)
unfolding goes_on
goes_on_over s f a h = moved_over s f (flight_run s f) (next_move f (flight_run s f)) a h
