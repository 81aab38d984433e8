-- Calls of folded entries stand nowhere else, and rows that say nothing of them leave their registers done with.
use Rattle.std.proofs.Common.{◌≡◌, ℕ, ◌+◌, ◌<◌, ◌≤◌, Bool, true, false, ◌&&◌, cond, List, [], ◌∷◌, ◌++◌, Option, Some, None, IsSome, IfSome, IsSomeAnd, fold, map, length, is_some, nat_eq, nat_lt, option_map, refl, sym, ap, ◌∙◌, subst, inl, inr, arith, eq-eqb, eqb-true, max}
use Rattle.std.specs.List.{list_any}
use Rattle.std.specs.Cmp.{nat_eq_equiv}
use Rattle.std.proofs.lemmas.Bool.{cases_Bool, or_left, or_right, or_parts}
use Rattle.std.proofs.lemmas.List.{map-append}
use Rattle.std.proofs.lemmas.List.Sums.{fold-append, fold_push}
use Rattle.lang_core.specs.declared.trace.CallMade.{CallMade}
use Rattle.request_log.specs.declared.entry.Entry.{Entry}
use Rattle.local_repair.specs.Steps.{answer_or_tentative}
use Rattle.journal_rows.specs.Words.{ack_step, announces, fold_step, folded_by, last_folded, last_noted, last_seen, last_sent, noted_at, noted_version, noting_step, announced_step, seen_acked, seen_step, sent_step}
use Rattle.journal_rows.specs.declared.caller.NotedRow.{NotedRow}
use Rattle.journal_rows.specs.declared.row.Row.{Row}
use Rattle.journal_rows.specs.declared.row.Row.TheVariants.{Sent, SawAck, Noted, SawAnswer, Ordered}
use Rattle.call_registers.specs.Registers.{answer_to, consumed_in, held_version, owes_fetch, register}
use Rattle.call_registers.specs.declared.register.Answer.{Answer}
use Rattle.call_registers.specs.declared.register.Register.{Register}
use Rattle.flights.specs.declared.flight.Flight.{Flight}
use Rattle.service_events.specs.Calls.{seen_answer}
use Rattle.service_events.specs.Fits.{EachAfter, Fits, FitsPlaces, FitsSeen, FitsSent, HasNoted, HasSeen, IsDoneWith, IsPast, NumberedCalls, SeesOn, call_in, calls_of_entry, calls_of_flight, count, places, sent_by, times_held, wanted_call}
use Rattle.service_events.specs.Messages.{is_past_call}
use Rattle.service_events.specs.State.{Kept, answers, folded, unfolded}
use Rattle.service_events.proofs.CallRowLemmas.{Each, each_of_all, go_on, word_same}
use Rattle.service_events.proofs.HorizonLemmas.{all_entries}
use Rattle.service_events.proofs.PlaceLemmas.{one_if, times_held-append}
use Rattle.journal_rows.specs.declared.caller.SentRow.{SentRow}
use Rattle.journal_rows.specs.declared.caller.SawAnswerRow.{SawAnswerRow}
use Rattle.call_registers.proofs.ChangeLemmas.{there_within}

-- ---- rows

-- it says nothing of the call of this number, but that it was acknowledged or confirmed
abbrev pub LeavesCall : ℕ → Row → Type 0
LeavesCall n (Sent s) = nat_eq s.number n ≡ false
LeavesCall n (Noted t) = nat_eq t.number n ≡ false
LeavesCall n (SawAnswer a) = nat_eq a.number n ≡ false
LeavesCall n row = Unit {0}

-- it folds nothing
abbrev pub FoldsNone : Row → Type 0
FoldsNone (Ordered o) = (last : Option ℕ) → folded_by last o.command ≡ last
FoldsNone row = Unit {0}

folds_same : (last : Option ℕ) (row : Row) → FoldsNone row → fold_step last row ≡ last
folds_same last (Ordered o) h = h last
folds_same last row h = refl

pub last_folded_same : (journal rows : List Row) → Each FoldsNone rows → last_folded (journal ++ rows) ≡ last_folded journal
last_folded_same journal rows h = word_same FoldsNone fold_step folds_same None journal rows h

module _ (n : ℕ) where
  sent_same : (last : Option SentRow) (row : Row) → LeavesCall n row → sent_step n last row ≡ last
  sent_same last (Sent s) h = rw h refl
  sent_same last row h = refl

  seen_same : (last : Option SawAnswerRow) (row : Row) → LeavesCall n row → seen_step n last row ≡ last
  seen_same last (SawAnswer a) h = rw h refl
  seen_same last row h = refl

  noting_same : (last : Option NotedRow) (row : Row) → LeavesCall n row → noting_step n last row ≡ last
  noting_same last (Noted t) h = rw h refl
  noting_same last row h = refl

  ack_by : (b : Bool) (most v : ℕ) → most ≤ cond b (max most v) most
  ack_by true most v = omega arith
  ack_by false most v = omega arith

  ack_rises : (most : ℕ) (row : Row) → most ≤ ack_step n most row
  ack_rises most (SawAck a) = ack_by (nat_eq a.number n) most a.version
  ack_rises most row = omega arith

  acks_rise : (rows : List Row) (most : ℕ) → most ≤ fold (ack_step n) most rows
  acks_rise [] most = omega arith
  acks_rise (row ∷ rows) most = (let one = ack_rises most row in let more = acks_rise rows (ack_step n most row) in omega (arith, one, more))

  pub acked_more : (journal rows : List Row) → seen_acked n journal ≤ seen_acked n (journal ++ rows)
  acked_more journal rows =
      (let is = fold-append (ack_step n) 0 journal rows in let more = acks_rise rows (seen_acked n journal) in omega (arith, is, more))

-- ---- an answer that was announced isn't above the last one that was

-- of each call in a journal
abbrev IsBelowLast : List Row → Type 0
IsBelowLast j = (n v : ℕ) → IsSome (noted_at n v j) → (1 ≤ v) × (v ≤ noted_version (last_noted n j))

announced_by : (t : NotedRow) (n v : ℕ) (here at : Bool) (last : Option NotedRow) (before : Option NotedRow) → (at ≡ true → here ≡ true) → (at ≡ true → t.answer_version ≡ v)
    → (IsSome before → (1 ≤ v) × (v ≤ noted_version last)) → (here ≡ true → noted_version last < t.answer_version) → IsSome (cond at (Some t) before)
    → (1 ≤ v) × (v ≤ noted_version (cond here (Some t) last))
announced_by t n v true true last before inside same old above some = (let is = same refl in let high = above refl in (omega (arith, is, high), omega (arith, is)))
announced_by t n v false true last before inside same old above some = (let never = inside refl in cc)
announced_by t n v true false last before inside same old above some = (let low = old some in let high = above refl in (low.0, omega (arith, low.1, high)))
announced_by t n v false false last before inside same old above some = old some

pub both_left : (a b : Bool) → (a && b) ≡ true → a ≡ true
both_left true b h = refl
both_left false b h = cc

both_right : (a b : Bool) → (a && b) ≡ true → b ≡ true
both_right true b h = h
both_right false b h = cc

below_stays : (before : List Row) (row : Row) → SeesOn before row → IsBelowLast before → (n v : ℕ) → IsSome (announced_step n v (noted_at n v before) row)
    → (1 ≤ v) × (v ≤ noted_version (noting_step n (last_noted n before) row))
below_stays before (Noted t) may h n v some =
    announced_by t n v (nat_eq t.number n) (announces n v t) (last_noted n before) (noted_at n v before)
    (λ is. both_left (nat_eq t.number n) (nat_eq t.answer_version v) is)
    (λ is. eqb-true t.answer_version v (both_right (nat_eq t.number n) (nat_eq t.answer_version v) is))
    (h n v)
    (λ is. let P : ℕ → Type 0 = λ k. noted_version (last_noted k before) < t.answer_version in subst P (eqb-true t.number n is) may.1.announced)
    some
below_stays before row may h n v some = h n v some

pub noted_below : (j : List Row) → EachAfter SeesOn [] j → (n v : ℕ) → IsSome (noted_at n v j) → (1 ≤ v) × (v ≤ noted_version (last_noted n j))
noted_below j may = go_on SeesOn IsBelowLast
    (λ before row f h n v some.
    rw (fold_push (noting_step n) None before row) (below_stays before row f h n v (subst IsSome (fold_push (announced_step n v) None before row) some)))
    j [] may (λ n v some. cc)

-- ---- where the calls of folded entries stand

-- the call of this number is one of a folded entry: it is wanted, and stands in no flight and in no other entry
pub record IsPastNumber (s : Kept) (n : ℕ) : Type 0 where
  pub positive : 1 ≤ n
  pub within : n ≤ length s.registers
  pub wanted : IsSome (wanted_call s.registers n)
  pub flying : Each (λ (f : Flight). count n f.numbers ≡ 0) s.flights
  pub others : Each (λ (e : Entry). count n e.slots ≡ 0) (unfolded s)
  pub past : is_past_call n s ≡ true
  pub done : IsSomeAnd (register n s.registers) IsDoneWith

none_counted : (n : ℕ) (ms : List ℕ) → list_any (nat_eq n) ms ≡ false → count n ms ≡ 0
none_counted n [] h = refl
none_counted n (m ∷ ms) h =
    let parts = or_parts (nat_eq n m) (list_any (nat_eq n) ms) h in
    let other : nat_eq m n ≡ false = nat_eq_equiv.symm m n ∙ parts.0 in
    let more : count n (m ∷ ms) ≡ 0 + count n ms = rw other refl in
    let rest = none_counted n ms parts.1 in
    omega (arith, more, rest)

slot_there : (n : ℕ) (es : List Entry) → 0 < times_held n (map calls_of_entry es) → list_any (λ (e : Entry). list_any (nat_eq n) e.slots) es ≡ true
slot_there n [] some = absurd (omega (arith, some))
slot_there n (e ∷ es) some = elim (cases_Bool (list_any (nat_eq n) e.slots)) [
  | inl is ↦ or_left (list_any (nat_eq n) e.slots) (list_any (λ (x : Entry). list_any (nat_eq n) x.slots) es) is
  | inr isnt ↦ (let none = none_counted n e.slots isnt in
      or_right (list_any (nat_eq n) e.slots) (list_any (λ (x : Entry). list_any (nat_eq n) x.slots) es) (slot_there n es (omega (arith, some, none))))
]

none_held : (n : ℕ) (ps : List NumberedCalls) → times_held n ps ≡ 0 → Each (λ (p : NumberedCalls). count n p.numbers ≡ 0) ps
none_held n [] h = tt
none_held n (p ∷ ps) h = (omega (arith, h), none_held n ps (omega (arith, h)))

each_unmap : {X Y : Type 0} (g : X → Y) (P : Y → Type 0) (xs : List X) → Each P (map g xs) → Each (λ x. P (g x)) xs
each_unmap g P [] h = tt
each_unmap g P (x ∷ xs) h = (h.0, each_unmap g P xs h.1)

pub each_both : {X : Type 0} (P Q R : X → Type 0) → ((x : X) → P x → Q x → R x) → (xs : List X) → Each P xs → Each Q xs → Each R xs
each_both P Q R w [] p q = tt
each_both P Q R w (x ∷ xs) p q = (w x p.0 q.0, each_both P Q R w xs p.1 q.1)

-- each of some numbers is counted among them
each_counted : (P : ℕ → Type 0) (xs : List ℕ) → ((k : ℕ) → 0 < count k xs → P k) → Each P xs
each_counted P [] h = tt
each_counted P (x ∷ xs) h = (
  h x (let is = eq-eqb x x refl in let one : count x (x ∷ xs) ≡ 1 + count x xs = rw is refl in omega (arith, one)),
  each_counted P xs (λ k some. h k (omega (arith, some))),
)

each_held : (P : ℕ → Type 0) (es : List Entry) → ((k : ℕ) → 0 < times_held k (map calls_of_entry es) → P k) → Each (λ (e : Entry). Each P e.slots) es
each_held P [] h = tt
each_held P (e ∷ es) h = (
  each_counted P e.slots (λ k some. h k (omega (arith, some))),
  each_held P es (λ k some. h k (omega (arith, some))),
)

-- what is known of such a number by where it stands
pub record StandsPast (s : Kept) (n : ℕ) : Type 0 where
  pub positive : 1 ≤ n
  pub within : n ≤ length s.registers
  pub wanted : IsSome (wanted_call s.registers n)
  pub flying : Each (λ (f : Flight). count n f.numbers ≡ 0) s.flights
  pub others : Each (λ (e : Entry). count n e.slots ≡ 0) (unfolded s)
  pub past : is_past_call n s ≡ true

wanted_within : (s : Kept) (n : ℕ) (o : Option Register) → FitsSent s.journal s.registers → register n s.registers ≡ o → 0 < one_if (call_in o) → (1 ≤ n) × (n ≤ length s.registers)
wanted_within s n None f is some = absurd (omega (arith, some))
wanted_within s n (Some r) f is some = (let w = there_within s.registers n f.numbered (subst IsSome (sym is) refl) in (w.0, omega (arith, w.1)))

some_if : (o : Option CallMade) → 0 < one_if o → IsSome o
some_if None some = absurd (omega (arith, some))
some_if (Some c) some = refl

one_most : (o : Option CallMade) → one_if o ≤ 1
one_most None = omega arith
one_most (Some c) = omega arith

stands_past : (s : Kept) → FitsSent s.journal s.registers → FitsPlaces s.registers (places s) → (n : ℕ) → 0 < times_held n (map calls_of_entry (folded s)) → StandsPast s n
stands_past s sent fits n some =
    let front = map calls_of_entry (folded s) in
    let back = map calls_of_entry (unfolded s) in
    let fs = map calls_of_flight s.flights in
    let split : times_held n (map calls_of_entry s.entries) ≡ times_held n front + times_held n back =
    ap (λ l. times_held n (map calls_of_entry l)) (sym (all_entries s)) ∙ ap (times_held n) (map-append calls_of_entry (folded s) (unfolded s)) ∙ times_held-append n front back in
    let all = times_held-append n (map calls_of_entry s.entries) fs in
    let once = fits.once n in
    let most = one_most (wanted_call s.registers n) in
    let asked : 0 < one_if (wanted_call s.registers n) = omega (arith, some, split, all, once) in
    record {
      positive = (wanted_within s n (register n s.registers) sent refl asked).0;
      within = (wanted_within s n (register n s.registers) sent refl asked).1;
      wanted = some_if (wanted_call s.registers n) asked;
      flying = each_unmap calls_of_flight (λ (p : NumberedCalls). count n p.numbers ≡ 0) s.flights (none_held n fs (omega (arith, some, split, all, once, most)));
      others = each_unmap calls_of_entry (λ (p : NumberedCalls). count n p.numbers ≡ 0) (unfolded s) (none_held n back (omega (arith, some, split, all, once, most)));
      past = slot_there n (folded s) some;
    }

-- the calls of all folded entries of a service that fits its journal
pub past_numbers : (s : Kept) → Fits s → Each (λ (e : Entry). Each (IsPastNumber s) e.slots) (folded s)
past_numbers s f =
    each_both (λ (e : Entry). Each (StandsPast s) e.slots) (IsPast s) (λ (e : Entry). Each (IsPastNumber s) e.slots)
    (λ e stand past. each_both (StandsPast s) (λ n. IsSomeAnd (register n s.registers) IsDoneWith) (IsPastNumber s)
    (λ n at done. record { positive = at.positive; within = at.within; wanted = at.wanted; flying = at.flying; others = at.others; past = at.past; done = done })
    e.slots stand (each_of_all (λ n. IsSomeAnd (register n s.registers) IsDoneWith) e.slots past.calls))
    (folded s) (each_held (StandsPast s) (folded s) (stands_past s f.sent f.places)) (each_of_all (IsPast s) (folded s) f.horizon.each)

-- ---- what rows leave of a register

noted_both : (token : Option NotedRow) (r r' : Register) → HasNoted token r → HasNoted token r' → r'.noted ≡ r.noted
noted_both None r r' h h' = h'.0 ∙ sym h.0
noted_both (Some t) r r' h h' = h'.0 ∙ sym h.0

-- a call is done with still, and consumes what it did
abbrev pub StaysDone : Option Register → Option Register → Type 0
StaysDone o o' = IsSomeAnd o' IsDoneWith × (consumed_in o' ≡ consumed_in o)

stays_by : (o o' : Option Register) (g g' : ℕ) (last : Option Answer) (token : Option NotedRow) → option_map sent_by o' ≡ option_map sent_by o → IfSome o (HasSeen g last token)
    → IfSome o' (HasSeen g' last token) → g ≤ g' → IsSomeAnd o IsDoneWith → StaysDone o o'
stays_by None o' g g' last token same h h' more done = absurd done
stays_by (Some r) None g g' last token same h h' more done = cc
stays_by (Some r) (Some r') g g' last token same h h' more done =
    let one : sent_by r' ≡ sent_by r = cc in
    let version : r'.version ≡ r.version = ap (λ (x : SentRow). x.version) one in
    let desired : r'.desired ≡ r.desired = ap (λ (x : SentRow). x.desired) one in
    let answer : r'.answer ≡ r.answer = h'.answer ∙ sym h.answer in
    let noted : r'.noted ≡ r.noted = noted_both token r r' h.noted h'.noted in
    let old = h.acked in
    let new = h'.acked in
    let was = done.acked in
    let owes : owes_fetch r' ≡ owes_fetch r = (λ i. is_some (desired i) && nat_lt (held_version (answer i)) (noted i)) in (
      record {
        acked = omega (arith, version, old, new, more, was);
        fetched = owes ∙ done.fetched;
      },
      (λ i. answer_to (version i) (answer i)),
    )

-- rows that say nothing of the call of a number leave it done with
pub stays_done : (s t : Kept) (rows : List Row) (n : ℕ) → FitsSent s.journal s.registers → FitsSeen s.journal s.registers → FitsSent t.journal t.registers → FitsSeen t.journal t.registers
    → t.journal ≡ s.journal ++ rows → Each (LeavesCall n) rows → IsSomeAnd (register n s.registers) IsDoneWith
    → IsSomeAnd (register n t.registers) IsDoneWith × (answers t n ≡ answers s n)
stays_done s t rows n sent seen sent' seen' is leaves done =
    let same_sent : last_sent n t.journal ≡ last_sent n s.journal = ap (last_sent n) is ∙ word_same (LeavesCall n) (sent_step n) (sent_same n) None s.journal rows leaves in
    let same_seen : last_seen n t.journal ≡ last_seen n s.journal = ap (last_seen n) is ∙ word_same (LeavesCall n) (seen_step n) (seen_same n) None s.journal rows leaves in
    let same_noted : last_noted n t.journal ≡ last_noted n s.journal = ap (last_noted n) is ∙ word_same (LeavesCall n) (noting_step n) (noting_same n) None s.journal rows leaves in
    let A : Option Answer → Type 0 = λ a. IfSome (register n t.registers) (HasSeen (seen_acked n t.journal) a (last_noted n t.journal)) in
    let T : Option NotedRow → Type 0 = λ k. IfSome (register n t.registers) (HasSeen (seen_acked n t.journal) (option_map seen_answer (last_seen n s.journal)) k) in
    let more = acked_more n s.journal rows in
    let grown : seen_acked n s.journal ≤ seen_acked n t.journal = (let at = ap (seen_acked n) is in omega (arith, at, more)) in
    let both = stays_by (register n s.registers) (register n t.registers) (seen_acked n s.journal) (seen_acked n t.journal) (option_map seen_answer (last_seen n s.journal)) (last_noted n s.journal)
    (sent'.registers n ∙ same_sent ∙ sym (sent.registers n)) (seen.registers n)
    (subst T same_noted (subst A (ap (option_map seen_answer) same_seen) (seen'.registers n))) grown done in
    (both.0, ap answer_or_tentative both.1)
