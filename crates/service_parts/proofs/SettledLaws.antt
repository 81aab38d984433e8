-- What settling the calls of an entry that ran again leaves, in the words of local repair.
use Rattle.std.proofs.Common.{◌≡◌, ◌≢◌, ℕ, zero, suc, ◌+◌, ◌<◌, ◌≤◌, ◌⊎◌, Bool, true, false, cond, List, [], ◌∷◌, ◌++◌, Option, Some, None, Contains, map, length, get_or, nat_eq, refl, sym, ap, ◌∙◌, subst, inl, inr, arith, length-append, eqb-true, eq-eqb}
use Rattle.std.proofs.lemmas.Bool.{cases_Bool, eqb-false}
use Rattle.std.proofs.lemmas.List.Elements.{All-get_or}
use Rattle.std.proofs.lemmas.List.Kept.{AllPairs-cons}
use Rattle.lang_core.specs.declared.request.Request.{Request}
use Rattle.lang_core.specs.declared.request.Response.{Response}
use Rattle.lang_core.specs.declared.trace.CallMade.{CallMade}
use Rattle.lang_core.specs.declared.trace.Trace.{Trace}
use Rattle.request_log.specs.declared.entry.Entry.{Entry}
use Rattle.local_repair.specs.Current.{Consumed}
use Rattle.local_repair.specs.Registers.{SlotsChange}
use Rattle.local_repair.specs.Settling.{IsSettled}
use Rattle.local_repair.specs.Steps.{answer_or_tentative, answers_for, calls_of_made, IsFreshOr, StandOnce}
use Rattle.journal_rows.specs.declared.caller.SentRow.{SentRow}
use Rattle.journal_rows.specs.declared.row.Row.{Row}
use Rattle.journal_rows.specs.declared.row.Row.TheVariants.{Sent, SawAck, Noted, SawAnswer}
use Rattle.call_registers.specs.Registers.{IsNumbered, register, next_number, consumed_in, sent_anew, with_ack, with_answer, with_note, has_number, IsTimely}
use Rattle.call_registers.specs.declared.register.Register.{Register}
use Rattle.service_events.specs.Calls.{first_sent, put_sent, seen_answer, after_row, after_rows, keeps_number, next_after, settling_rows, settling_numbers}
use Rattle.service_events.specs.Fits.{NumberedCalls, WantsItsCalls, calls_of_entry, count, wanted_call, call_in}
use Rattle.service_events.proofs.CallRowLemmas.{Each, each_of_all, all_of_each, each_weaker, IsPlain}
use Rattle.service_events.proofs.RegisterLemmas.{found_within, length-change}
use Rattle.service_events.proofs.PlaceLemmas.{one_if, lengths, not_counted, place}
use Rattle.service_events.proofs.FittingLemmas.{Book, entered, entered-append, HasRoom, room_first, Fitting, plain_rows, answered}
use Rattle.service_events.proofs.SettleLemmas.{Settled, settle_all, same_versions}

-- ---- numbers and how often they stand

-- a number of a list is counted there
counted_at : (k n : ℕ) (ns : List ℕ) → k < length ns → get_or ns k n ≡ n → 0 < count n ns
counted_at k n [] w is = absurd (omega (arith, w))
counted_at zero n (m ∷ ms) w is = (let same = eq-eqb m n is in let one : count n (m ∷ ms) ≡ 1 + count n ms = rw same refl in omega (arith, one))
counted_at (suc k) n (m ∷ ms) w is = (let later = counted_at k n ms (omega (arith, w)) is in omega (arith, later))

pub counted : (n : ℕ) (ns : List ℕ) → Contains ns n → 0 < count n ns
counted n ns c = counted_at c.0 n ns c.1 c.2

-- a number that is counted is of the list
pub contained : (n : ℕ) (ns : List ℕ) → 0 < count n ns → Contains ns n
contained n [] h = absurd (omega (arith, h))
contained n (m ∷ ms) h = elim (cases_Bool (nat_eq m n)) [
  | inl is ↦ (0, omega arith, eqb-true m n is)
  | inr differs ↦ (let more : count n (m ∷ ms) ≡ 0 + count n ms = rw differs refl in
      let later = contained n ms (omega (arith, more, h)) in (suc later.0, omega (arith, later.1), later.2))
]

pub not_contained : (n : ℕ) (ns : List ℕ) → (Contains ns n → ⊥) → count n ns ≡ 0
not_contained n ns none = by_count (count n ns) refl
  where
    by_count : (k : ℕ) → count n ns ≡ k → k ≡ 0
    by_count zero is = refl
    by_count (suc k) is = absurd (none (contained n ns (omega (arith, is))))

-- numbers that are each counted once at most stand once
pub once_each : (ns : List ℕ) → ((n : ℕ) → count n ns ≤ 1) → StandOnce ns
once_each [] h = none
  where
    none : StandOnce []
    none i j d before within = absurd (omega (arith, within))
once_each (n ∷ ns) h =
    AllPairs-cons (λ k m. k ≢ m) n ns
    (all_of_each (λ m. n ≢ m) ns (each_weaker (λ m. nat_eq m n ≡ false) (λ m. n ≢ m) (λ m differs same. eqb-false m n differs (sym same)) ns (not_counted n ns away)))
    (once_each ns (λ m. (let most = h m in omega (arith, most))))
  where
    away : count n ns ≡ 0
    away = (let most = h n in let is = eq-eqb n n refl in let one : count n (n ∷ ns) ≡ 1 + count n ns = rw is refl in omega (arith, most, one))

pub one_most : (o : Option CallMade) → one_if o ≤ 1
one_most None = omega arith
one_most (Some c) = omega arith

-- a number whose call is wanted was given
pub wanted_within : (rs : List Register) (n : ℕ) → IsNumbered rs → 0 < one_if (wanted_call rs n) → n ≤ length rs
wanted_within rs n numbered h = by_register (register n rs) refl
  where
    by_register : (o : Option Register) → register n rs ≡ o → n ≤ length rs
    by_register None is = absurd (let none : one_if (wanted_call rs n) ≡ 0 = ap (λ x. one_if (call_in x)) is in omega (arith, h, none))
    by_register (Some r) is = found_within n rs r numbered is

-- ---- the numbers of the new calls

-- the numbers that settling gives are the old ones or new
gives : (ns : List ℕ) (os cs : List CallMade) (next : ℕ) → Each (λ k. (0 < count k ns) ⊎ (next ≤ k)) (settling_numbers next ns os cs)
gives [] [] [] next = tt
gives [] (o ∷ os) [] next = tt
gives [] [] (c ∷ cs) next = (inr (omega arith), each_weaker (λ k. (0 < count k []) ⊎ (next + 1 ≤ k)) (λ k. (0 < count k []) ⊎ (next ≤ k)) (later next) (settling_numbers (next + 1) [] [] cs) (gives [] [] cs (next + 1)))
  where
    later : (next k : ℕ) → (0 < count k []) ⊎ (next + 1 ≤ k) → (0 < count k []) ⊎ (next ≤ k)
    later next k (inl a) = inl a
    later next k (inr b) = inr (omega (arith, b))
gives [] (o ∷ os) (c ∷ cs) next = (inr (omega arith), each_weaker (λ k. (0 < count k []) ⊎ (next + 1 ≤ k)) (λ k. (0 < count k []) ⊎ (next ≤ k)) (later next) (settling_numbers (next + 1) [] (o ∷ os) cs) (gives [] (o ∷ os) cs (next + 1)))
  where
    later : (next k : ℕ) → (0 < count k []) ⊎ (next + 1 ≤ k) → (0 < count k []) ⊎ (next ≤ k)
    later next k (inl a) = inl a
    later next k (inr b) = inr (omega (arith, b))
gives (n ∷ ns) [] cs next = tt
gives (n ∷ ns) (o ∷ os) [] next = tt
gives (n ∷ ns) (o ∷ os) (c ∷ cs) next =
    (here (keeps_number o c), each_weaker (λ k. (0 < count k ns) ⊎ (next_after next o c ≤ k)) (λ k. (0 < count k (n ∷ ns)) ⊎ (next ≤ k)) later (settling_numbers (next_after next o c) ns os cs) (gives ns os cs (next_after next o c)))
  where
    here : (b : Bool) → (0 < count (cond b n next) (n ∷ ns)) ⊎ (next ≤ cond b n next)
    here true = inl (let is = eq-eqb n n refl in let one : count n (n ∷ ns) ≡ 1 + count n ns = rw is refl in omega (arith, one))
    here false = inr (omega arith)

    rises : (b : Bool) → next ≤ cond b next (next + 1)
    rises true = omega arith
    rises false = omega arith

    later : (k : ℕ) → (0 < count k ns) ⊎ (next_after next o c ≤ k) → (0 < count k (n ∷ ns)) ⊎ (next ≤ k)
    later k (inl a) = inl (omega (arith, a))
    later k (inr b) = inr (let up = rises (keeps_number o c) in omega (arith, b, up))

-- ---- registers are never fewer

first_longer : (at : ℕ) (s : SentRow) (d : Option Request) (rs : List Register) → length rs ≤ length (first_sent at s d rs)
first_longer at s None rs = omega arith
first_longer at s (Some q) rs = (let sum = length-append rs in omega (arith, sum))

put_longer : (at : ℕ) (s : SentRow) (o : Option Register) (rs : List Register) → length rs ≤ length (put_sent at s o rs)
put_longer at s None rs = first_longer at s s.desired rs
put_longer at s (Some r) rs = (let same = length-change (has_number s.number) (sent_anew s.desired at) rs in omega (arith, same))

row_longer : (at : ℕ) (rs : List Register) (row : Row) → length rs ≤ length (after_row at rs row)
row_longer at rs (Sent s) = put_longer at s (register s.number rs) rs
row_longer at rs (SawAck a) = (let same = length-change (has_number a.number) (with_ack a.version) rs in omega (arith, same))
row_longer at rs (Noted t) = (let same = length-change (has_number t.number) (with_note t.answer_version t.who t.rule at) rs in omega (arith, same))
row_longer at rs (SawAnswer a) = (let same = length-change (has_number a.number) (with_answer (seen_answer a)) rs in omega (arith, same))
row_longer at rs row = omega arith

pub rows_longer : (at : ℕ) (rs : List Register) (rows : List Row) → length rs ≤ length (after_rows at rs rows)
rows_longer at rs [] = omega arith
rows_longer at rs (row ∷ rows) =
    (let one = row_longer at rs row in let more = rows_longer (at + 1) (after_row at rs row) rows in omega (arith, one, more))

-- ---- what is left

-- the registers before and after, as a change that local repair sees
abbrev pub change : List Register → List Register → (Entry → Trace → Bool → List ℕ → Type 0) → SlotsChange
change now end settles =
    record {
      before = answered now;
      after = answered end;
      last = length now;
      later = length end;
      timely = IsTimely now;
      settles = settles;
    }

as_many : (consumed : Consumed) (old : List CallMade) (slots : List ℕ) (calls : List CallMade) → length (answers_for consumed old slots calls) ≡ length calls
as_many consumed old slots [] = refl
as_many consumed [] slots (c ∷ cs) = ap suc (as_many consumed [] slots cs)
as_many consumed (o ∷ os) [] (c ∷ cs) = ap suc (as_many consumed os [] cs)
as_many consumed (o ∷ os) (n ∷ ns) (c ∷ cs) = ap suc (as_many consumed os ns cs)

-- an entry's calls are settled by these rows, and more rows come that tell of no call
module _ (b : Book) (e : Entry) (calls : List CallMade) (more : List Row) (ps : List NumberedCalls) (plain : Each IsPlain more)
    (room : HasRoom b (settling_rows b.registers (next_number b.registers) e.slots (calls_of_made e.made) calls ++ more))
    (fits : Fitting b (calls_of_entry e ∷ ps)) where
  abbrev next : ℕ
  next = next_number b.registers

  abbrev rows : List Row
  rows = settling_rows b.registers (next_number b.registers) e.slots (calls_of_made e.made) calls

  abbrev numbers : List ℕ
  numbers = settling_numbers (next_number b.registers) e.slots (calls_of_made e.made) calls

  abbrev mid : Book
  mid = entered rows b

  abbrev end : List Register
  end = (entered (rows ++ more) b).registers

  left : Settled b rows e.slots numbers (calls_of_made e.made) calls ps
  left = settle_all b.registers e.slots (calls_of_made e.made) calls b next ps (room_first b rows more room) refl (same_versions b.registers e.slots) fits

  same_end : end ≡ mid.registers
  same_end = ap (λ (x : Book). x.registers) (entered-append rows more b) ∙ plain_rows (length mid.journal) mid.registers more plain

  one_at_most : (n : ℕ) → count n numbers ≤ 1
  one_at_most n =
      (let total = left.fits.places.once n in let most = one_most (wanted_call mid.registers n) in omega (arith, total, most))

  given_within : (n : ℕ) → 0 < count n numbers → n ≤ length end
  given_within n some =
      let total = left.fits.places.once n in
      let within = wanted_within mid.registers n left.fits.sent.numbered (omega (arith, some, total)) in
      let same = ap length same_end in
      omega (arith, within, same)

  fresh_or : (n : ℕ) → 0 < count n numbers → (0 < count n e.slots) ⊎ (next ≤ n) → IsFreshOr e.slots (length b.registers) (length end) n
  fresh_or n some (inl own) = inl (contained n e.slots own)
  fresh_or n some (inr new) = inr (let within = given_within n some in (omega (arith, new), within))

  all_fresh : (n : ℕ) → Contains numbers n → IsFreshOr e.slots (length b.registers) (length end) n
  all_fresh n c =
      let each = all_of_each (λ k. (0 < count k e.slots) ⊎ (next ≤ k)) numbers (gives e.slots (calls_of_made e.made) calls next) in
      let here = All-get_or (λ k. (0 < count k e.slots) ⊎ (next ≤ k)) numbers c.0 n c.1 each in
      let P : ℕ → Type 0 = λ k. (0 < count k e.slots) ⊎ (next ≤ k) in
      fresh_or n (counted n numbers c) (subst P c.2 here)

  pub settled_timely : IsTimely b.registers → IsTimely end
  settled_timely timely = subst IsTimely (sym same_end) (left.timely timely)

  -- so the numbers stand for the answers that the old calls gave
  pub settled_is : (settles : Entry → Trace → Bool → List ℕ → Type 0) (xs : List Response) → xs ≡ answers_for (answered b.registers) (calls_of_made e.made) e.slots calls
      → IsSettled (change b.registers end settles) e.slots numbers xs
  settled_is settles xs given = record {
    count = lengths mid.registers numbers calls (each_of_all (WantsItsCalls mid.registers) (place numbers calls ∷ ps) left.fits.places.calls).0
        ∙ sym (ap length given ∙ as_many (answered b.registers) (calls_of_made e.made) e.slots calls);
    consumes = λ timely. ap (λ rs. map (answered rs) numbers) same_end ∙ left.consumes timely ∙ sym given;
    others = λ n within none.
        ap (λ rs. answered rs n) same_end ∙ ap (λ o. answer_or_tentative (consumed_in o)) (left.others n (not_contained n e.slots none) within);
    fresh = all_fresh;
    once = once_each numbers one_at_most;
    higher = rows_longer (length b.journal) b.registers (rows ++ more);
  }
