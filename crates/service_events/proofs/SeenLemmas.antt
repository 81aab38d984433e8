-- Registers have what was seen of their calls, as rows come.
use Rattle.std.proofs.Common.{◌≡◌, ℕ, ◌+◌, ◌^◌, ◌<◌, Bool, true, false, ◌||◌, ◌⊎◌, cond, fold, List, [], ◌∷◌, ◌++◌, Option, Some, None, IsSome, IfSome, max, length, nat_eq, option_map, refl, sym, ap, ◌∙◌, subst, inl, inr, arith, append_assoc, append-nil, length-append, eqb-true, lt-ltb}
use Rattle.std.proofs.lemmas.Bool.{cases_Bool, or_cases, or_left, or_right}
use Rattle.std.specs.List.{list_any}
use Rattle.std.proofs.lemmas.List.Sums.{fold_push, fold-append}
use Rattle.journal_rows.specs.Words.{sent_step, last_sent, ack_step, seen_acked, seen_step, last_seen, seen_version, claim_step, noting_step, last_noted, noted_version, confirm_step}
use Rattle.journal_rows.specs.declared.caller.NotedRow.{NotedRow}
use Rattle.journal_rows.specs.declared.caller.SawAnswerRow.{SawAnswerRow}
use Rattle.journal_rows.specs.declared.caller.SentRow.{SentRow}
use Rattle.journal_rows.specs.declared.row.Row.{Row}
use Rattle.journal_rows.specs.declared.row.Row.TheVariants.{Sent, SawAck, Noted, SawAnswer, Confirmed}
use Rattle.call_registers.specs.Registers.{register, at_number, with_ack, with_answer, with_note, is_newer}
use Rattle.call_registers.specs.declared.register.Answer.{Answer}
use Rattle.call_registers.specs.declared.register.Register.{Register}
use Rattle.service_events.specs.Calls.{seen_answer, after_row, after_rows}
use Rattle.service_events.specs.Fits.{EachAfter, SendsOn, FitsSent, sent_by, SeesOn, HasSeen, tells_of_answer, FitsSeen}
use Rattle.service_events.proofs.CallRowLemmas.{Each, EachAfter-append, go_on, kind_follows, word_same, IsUnseen}
use Rattle.service_events.proofs.NoteLemmas.{StartsNoted, noted_same, notes_kept, notes_of}
use Rattle.service_events.proofs.RegisterLemmas.{find-change}
use Rattle.service_events.proofs.SentLemmas.{acked_in, answer_in, Put, put, fits_row, ack_aside, answer_aside, note_aside}

-- ---- what is seen was sent

-- of a number that was never sent nothing was seen
abbrev IsUnheard : List Row → Type 0
IsUnheard j = (n : ℕ) → last_sent n j ≡ None → (seen_acked n j ≡ 0) × (last_seen n j ≡ None) × (last_noted n j ≡ None)

none_some : {X : Type 0} (o : Option X) → o ≡ None → IsSome o → ⊥
none_some None e h = cc
none_some (Some x) e h = cc

first_only : (b : Bool) (s : SentRow) (last : Option SentRow) → cond b (Some s) last ≡ None → last ≡ None
first_only true s last e = cc
first_only false s last e = e

unheard_stays : (before : List Row) (row : Row) → SeesOn before row → IsUnheard before → (n : ℕ) → sent_step n (last_sent n before) row ≡ None
    → (ack_step n (seen_acked n before) row ≡ 0) × (seen_step n (last_seen n before) row ≡ None) × (noting_step n (last_noted n before) row ≡ None)
unheard_stays before (Sent s) may h n none = h n (first_only (nat_eq s.number n) s (last_sent n before) none)
unheard_stays before (SawAck a) may h n none = elim (cases_Bool (nat_eq a.number n)) [
  | inl is ↦ absurd (none_some (last_sent n before) none (let P : ℕ → Type 0 = λ k. IsSome (last_sent k before) in subst P (eqb-true a.number n is) may))
  | inr differs ↦ rw differs (h n none)
]
unheard_stays before (Noted t) may h n none = elim (cases_Bool (nat_eq t.number n)) [
  | inl is ↦ absurd (none_some (last_sent n before) none (let P : ℕ → Type 0 = λ k. IsSome (last_sent k before) in subst P (eqb-true t.number n is) may.0))
  | inr differs ↦ rw differs (h n none)
]
unheard_stays before (SawAnswer a) may h n none = elim (cases_Bool (nat_eq a.number n)) [
  | inl is ↦ absurd (none_some (last_sent n before) none (let P : ℕ → Type 0 = λ k. IsSome (last_sent k before) in subst P (eqb-true a.number n is) may.0))
  | inr differs ↦ rw differs (h n none)
]
unheard_stays before row may h n none = h n none

is_unheard : (j : List Row) → EachAfter SeesOn [] j → IsUnheard j
is_unheard j may = go_on SeesOn IsUnheard
    (λ before row f h n none. (let earlier : sent_step n (last_sent n before) row ≡ None = sym (fold_push (sent_step n) None before row) ∙ none in
    rw (fold_push (ack_step n) 0 before row, fold_push (seen_step n) None before row, fold_push (noting_step n) None before row) (unheard_stays before row f h n earlier))) j [] may (λ n none. (refl, refl, refl))

-- ---- a row more

-- rows and registers, without what was claimed
pub record Sees (journal : List Row) (kept : List Register) : Type 0 where
  pub rows : EachAfter SeesOn [] journal
  pub registers : (number : ℕ)
      → IfSome (register number kept) (HasSeen (seen_acked number journal) (option_map seen_answer (last_seen number journal)) (last_noted number journal))

abbrev HasNow : List Row → ℕ → Option Register → Type 0
HasNow journal n o = IfSome o (HasSeen (seen_acked n journal) (option_map seen_answer (last_seen n journal)) (last_noted n journal))

-- the words of a number after one row more
abbrev HasThen : List Row → Row → ℕ → Option Register → Type 0
HasThen journal row n o =
    IfSome o (HasSeen (ack_step n (seen_acked n journal) row) (option_map seen_answer (seen_step n (last_seen n journal) row)) (noting_step n (last_noted n journal) row))

pushed : (journal : List Row) (row : Row) (n : ℕ) (o : Option Register) → HasThen journal row n o → HasNow (journal ++ row ∷ []) n o
pushed journal row n o h = rw (fold_push (ack_step n) 0 journal row, fold_push (seen_step n) None journal row, fold_push (noting_step n) None journal row) h

record Starts (journal : List Row) (n : ℕ) (o : Option Register) : Type 0 where
  pub acked : acked_in o ≡ seen_acked n journal
  pub answer : answer_in o ≡ option_map seen_answer (last_seen n journal)
  pub noted : StartsNoted (last_noted n journal) o

starts : (journal : List Row) (now : List Register) (n : ℕ) (o : Option Register) → FitsSent journal now → Sees journal now → register n now ≡ o
    → HasNow journal n o → Starts journal n o
starts journal now n None f h is has =
    let unheard = is_unheard journal h.rows n (sym (f.registers n) ∙ ap (option_map sent_by) is) in
    record { acked = sym unheard.0; answer = sym (ap (option_map seen_answer) unheard.1); noted = unheard.2 }
starts journal now n (Some r) f h is has = record { acked = has.acked; answer = has.answer; noted = has.noted }

sent_one : (journal : List Row) (b : Bool) (made : Register) (n : ℕ) (o : Option Register) → (b ≡ true → HasNow journal n (Some made)) → HasNow journal n o
    → HasNow journal n (cond b (Some made) o)
sent_one journal true made n o this other = this refl
sent_one journal false made n o this other = other

ack_one : (b : Bool) (o : Option Register) (v greatest : ℕ) (last : Option Answer) (token : Option NotedRow) → IfSome o (HasSeen greatest last token)
    → IfSome (cond b (option_map (with_ack v) o) o) (HasSeen (cond b (max greatest v) greatest) last token)
ack_one true None v greatest last token h = tt
ack_one false None v greatest last token h = tt
ack_one true (Some r) v greatest last token h =
    record { acked = ap (λ k. max k v) h.acked; answer = h.answer; noted = noted_same token (with_ack v r) r refl h.noted }
ack_one false (Some r) v greatest last token h = h

note_one : (b : Bool) (o : Option Register) (t : NotedRow) (since greatest : ℕ) (last : Option Answer) (token : Option NotedRow) → IfSome o (HasSeen greatest last token)
    → IfSome (cond b (option_map (with_note t.answer_version t.who t.rule since) o) o) (HasSeen greatest last (cond b (Some t) token))
note_one true None t since greatest last token h = tt
note_one false None t since greatest last token h = tt
note_one true (Some r) t since greatest last token h = record { acked = h.acked; answer = h.answer; noted = (refl, refl, refl) }
note_one false (Some r) t since greatest last token h = h

newer_than : (o : Option Answer) (v : ℕ) (last : Option SawAnswerRow) → o ≡ option_map seen_answer last → IfSome last (λ l. l.answer_version < v) → is_newer o v ≡ true
newer_than None v last e h = refl
newer_than (Some x) v None e h = cc
newer_than (Some x) v (Some l) e h = (let same : x ≡ seen_answer l = some_answer x (seen_answer l) e in
    let version : x.answer_version ≡ l.answer_version = ap (λ (y : Answer). y.answer_version) same in lt-ltb x.answer_version v (omega (arith, version, h)))
  where
    some_answer : (x y : Answer) → Some x ≡ Some y → x ≡ y
    some_answer x y e = cc

answer_one : (b : Bool) (o : Option Register) (a : SawAnswerRow) (greatest : ℕ) (last : Option SawAnswerRow) (token : Option NotedRow)
    → (b ≡ true → IfSome last (λ l. l.answer_version < a.answer_version)) → IfSome o (HasSeen greatest (option_map seen_answer last) token)
    → IfSome (cond b (option_map (with_answer (seen_answer a)) o) o) (HasSeen greatest (option_map seen_answer (cond b (Some a) last)) token)
answer_one true None a greatest last token newer h = tt
answer_one false None a greatest last token newer h = tt
answer_one true (Some r) a greatest last token newer h =
    let is : is_newer r.answer a.answer_version ≡ true = newer_than r.answer a.answer_version last h.answer (newer refl) in
    rw is (record { acked = h.acked; answer = refl; noted = noted_same token (record r { answer = Some (seen_answer a) }) r refl h.noted })
answer_one false (Some r) a greatest last token newer h = h

-- what a sent version leaves of what was seen
sees_sent : (journal : List Row) (now : List Register) (s : SentRow) (end : List Register) → FitsSent journal now → Put journal now s end → Sees journal now
    → (n : ℕ) → HasNow journal n (register n end)
sees_sent journal now s end f p h n =
    let P : Option Register → Type 0 = λ o. HasNow journal n o in
    let made : nat_eq s.number n ≡ true → HasNow journal n (Some p.made) = λ is.
    (let Q : ℕ → Type 0 = λ k. HasNow journal k (Some p.made) in
    let at = starts journal now s.number (register s.number now) f h refl (h.registers s.number) in
    subst Q (eqb-true s.number n is) (record {
      acked = p.acked ∙ at.acked;
      answer = p.answer ∙ at.answer;
      noted = notes_kept (last_noted s.number journal) (register s.number now) p.made p.notes at.noted;
    })) in
    subst P (sym (p.found n)) (sent_one journal (nat_eq s.number n) p.made n (register n now) made (h.registers n))

pub sees_row : (journal : List Row) (now : List Register) (row : Row) → length journal + 1 < 2 ^ 64 → SendsOn journal row → SeesOn journal row
    → FitsSent journal now → Sees journal now → Sees (journal ++ row ∷ []) (after_row (length journal) now row)
sees_row journal now (Sent s) few may sees f h = record {
  rows = EachAfter-append SeesOn journal (Sent s ∷ []) [] h.rows (tt, tt);
  registers = λ n. pushed journal (Sent s) n (register n (after_row (length journal) now (Sent s)))
      (sees_sent journal now s (after_row (length journal) now (Sent s)) f (put journal now (length journal) s f few may) h n);
}
sees_row journal now (SawAck a) few may sees f h = record {
  rows = EachAfter-append SeesOn journal (SawAck a ∷ []) [] h.rows (sees, tt);
  registers = λ n. (let P : Option Register → Type 0 = λ o. HasThen journal (SawAck a) n o in
      pushed journal (SawAck a) n (register n (at_number a.number (with_ack a.version) now))
      (subst P (sym (find-change a.number n (with_ack a.version) (ack_aside a.version).number now))
      (ack_one (nat_eq a.number n) (register n now) a.version (seen_acked n journal) (option_map seen_answer (last_seen n journal)) (last_noted n journal) (h.registers n))));
}
sees_row journal now (Noted t) few may sees f h = record {
  rows = EachAfter-append SeesOn journal (Noted t ∷ []) [] h.rows (sees, tt);
  registers = λ n. (let P : Option Register → Type 0 = λ o. HasThen journal (Noted t) n o in
      let g : Register → Register = with_note t.answer_version t.who t.rule (length journal) in
      pushed journal (Noted t) n (register n (at_number t.number g now))
      (subst P (sym (find-change t.number n g (note_aside t.answer_version t.who t.rule (length journal)).number now))
      (note_one (nat_eq t.number n) (register n now) t (length journal) (seen_acked n journal) (option_map seen_answer (last_seen n journal)) (last_noted n journal) (h.registers n))));
}
sees_row journal now (SawAnswer a) few may sees f h = record {
  rows = EachAfter-append SeesOn journal (SawAnswer a ∷ []) [] h.rows (sees, tt);
  registers = λ n. (let P : Option Register → Type 0 = λ o. HasThen journal (SawAnswer a) n o in
      let newer : nat_eq a.number n ≡ true → IfSome (last_seen n journal) (λ l. l.answer_version < a.answer_version) = λ is.
      (let Q : ℕ → Type 0 = λ k. IfSome (last_seen k journal) (λ l. l.answer_version < a.answer_version) in subst Q (eqb-true a.number n is) sees.1) in
      pushed journal (SawAnswer a) n (register n (at_number a.number (with_answer (seen_answer a)) now))
      (subst P (sym (find-change a.number n (with_answer (seen_answer a)) (answer_aside (seen_answer a)).number now))
      (answer_one (nat_eq a.number n) (register n now) a (seen_acked n journal) (last_seen n journal) (last_noted n journal) newer (h.registers n))));
}
sees_row journal now row few may sees f h = record {
  rows = EachAfter-append SeesOn journal (row ∷ []) [] h.rows (sees, tt);
  registers = λ n. pushed journal row n (register n now) (h.registers n);
}

pub sees_rows : (rows journal : List Row) (now : List Register) → length journal + length rows < 2 ^ 64 → EachAfter SendsOn journal rows
    → EachAfter SeesOn journal rows → FitsSent journal now → Sees journal now → Sees (journal ++ rows) (after_rows (length journal) now rows)
sees_rows [] journal now few may sees f h = (let P : List Row → Type 0 = λ j. Sees j now in subst P (sym (append-nil journal)) h)
sees_rows (row ∷ rows) journal now few may sees f h =
    let one : length (journal ++ row ∷ []) ≡ length journal + 1 = omega (arith, length-append journal (row ∷ [])) in
    let mid = after_row (length journal) now row in
    let here : length journal + 1 < 2 ^ 64 = omega (arith, few) in
    let rest = sees_rows rows (journal ++ row ∷ []) mid (omega (arith, few, one)) may.1 sees.1 (fits_row journal now row here may.0 f)
    (sees_row journal now row here may.0 sees.0 f h) in
    let P : ℕ → Type 0 = λ k. Sees ((journal ++ row ∷ []) ++ rows) (after_rows k mid rows) in
    let Q : List Row → Type 0 = λ j. Sees j (after_rows (length journal) now (row ∷ rows)) in
    subst Q (append_assoc journal (row ∷ []) rows) (subst P one rest)

-- ---- rows that tell nothing that was seen

unseen_follows : (before : List Row) (row : Row) → IsUnseen row → SeesOn before row
unseen_follows before (SawAck a) h = absurd h
unseen_follows before (Noted t) h = absurd h
unseen_follows before (SawAnswer a) h = absurd h
unseen_follows before (Confirmed c) h = absurd h
unseen_follows before row h = tt

unseen_claims : (n most : ℕ) (row : Row) → IsUnseen row → claim_step n most row ≡ most
unseen_claims n most (SawAck a) h = absurd h
unseen_claims n most row h = refl

unseen_tokens : (n : ℕ) (last : Option NotedRow) (row : Row) → IsUnseen row → noting_step n last row ≡ last
unseen_tokens n last (Noted t) h = absurd h
unseen_tokens n last row h = refl

unseen_confirms : (n most : ℕ) (row : Row) → IsUnseen row → confirm_step n most row ≡ most
unseen_confirms n most (Confirmed c) h = absurd h
unseen_confirms n most row h = refl

unseen_answers : (n : ℕ) (last : Option SawAnswerRow) (row : Row) → IsUnseen row → seen_step n last row ≡ last
unseen_answers n last (SawAnswer a) h = absurd h
unseen_answers n last row h = refl

-- ---- what tells that an answer was seen

pub any_parts : (p : Row → Bool) (xs ys : List Row) → list_any p (xs ++ ys) ≡ true → (list_any p xs ≡ true) ⊎ (list_any p ys ≡ true)
any_parts p [] ys h = inr h
any_parts p (x ∷ xs) ys h = elim (or_cases (p x) (list_any p (xs ++ ys)) h) [
  | inl here ↦ inl (or_left (p x) (list_any p xs) here)
  | inr later ↦ elim (any_parts p xs ys later) [
    | inl front ↦ inl (or_right (p x) (list_any p xs) front)
    | inr back ↦ inr back
  ]
]

-- an answer that was seen stays
seen_one : (n : ℕ) (last : Option SawAnswerRow) (row : Row) → IsSome last → IsSome (seen_step n last row)
seen_one n last (SawAnswer a) h = elim (cases_Bool (nat_eq a.number n)) [
  | inl is ↦ rw is refl
  | inr differs ↦ rw differs h
]
seen_one n last row h = h

pub seen_stays : (n : ℕ) (rows : List Row) (last : Option SawAnswerRow) → IsSome last → IsSome (fold (seen_step n) last rows)
seen_stays n [] last h = h
seen_stays n (row ∷ rows) last h = seen_stays n rows (seen_step n last row) (seen_one n last row h)

-- where rows come that tell of no answer but of one that was seen
pub answered_more : (journal rows : List Row) (n : ℕ) → (list_any (tells_of_answer n) journal ≡ true → IsSome (last_seen n journal))
    → (list_any (tells_of_answer n) rows ≡ true → IsSome (fold (seen_step n) (last_seen n journal) rows))
    → list_any (tells_of_answer n) (journal ++ rows) ≡ true → IsSome (last_seen n (journal ++ rows))
answered_more journal rows n before later told = rw (fold-append (seen_step n) None journal rows) (elim (any_parts (tells_of_answer n) journal rows told) [
  | inl early ↦ seen_stays n rows (last_seen n journal) (before early)
  | inr late ↦ later late
])

unseen_silent : (n : ℕ) (rows : List Row) → Each IsUnseen rows → list_any (tells_of_answer n) rows ≡ true → ⊥
unseen_silent n [] h told = cc
unseen_silent n (row ∷ rows) h told = unseen_silent n rows h.1 (one_silent n row (list_any (tells_of_answer n) rows) h.0 told)
  where
    one_silent : (n : ℕ) (row : Row) (b : Bool) → IsUnseen row → (tells_of_answer n row || b) ≡ true → b ≡ true
    one_silent n (SawAck a) b h t = absurd h
    one_silent n row b h t = t

pub seen_unseen : (rows journal : List Row) (now : List Register) → length journal + length rows < 2 ^ 64 → EachAfter SendsOn journal rows → Each IsUnseen rows
    → FitsSent journal now → FitsSeen journal now → FitsSeen (journal ++ rows) (after_rows (length journal) now rows)
seen_unseen rows journal now few may unseen f h =
    let sees = sees_rows rows journal now few may (kind_follows SeesOn IsUnseen unseen_follows rows journal unseen) f (record { rows = h.rows; registers = h.registers }) in
    record {
      rows = sees.rows;
      registers = sees.registers;
      answered = λ n. answered_more journal rows n (h.answered n) (λ told. absurd (unseen_silent n rows unseen told));
      heard = λ n. (let a = word_same IsUnseen (claim_step n) (λ most row u. unseen_claims n most row u) 0 journal rows unseen in
          let b = ap seen_version (word_same IsUnseen (seen_step n) (λ last row u. unseen_answers n last row u) None journal rows unseen) in
          let c = h.heard n in omega (arith, a, b, c));
      told = λ n. (let a = word_same IsUnseen (confirm_step n) (λ most row u. unseen_confirms n most row u) 0 journal rows unseen in
          let b = ap seen_version (word_same IsUnseen (seen_step n) (λ last row u. unseen_answers n last row u) None journal rows unseen) in
          let c = ap noted_version (word_same IsUnseen (noting_step n) (λ last row u. unseen_tokens n last row u) None journal rows unseen) in
          let d = h.told n in omega (arith, a, b, c, d));
    }

-- ---- a change of a register that leaves what was seen

-- a change leaves what a register says of acknowledgements, answers and tokens
abbrev pub LeavesSeen : (Register → Register) → Type 0
LeavesSeen f = (r : Register) → ((f r).acked ≡ r.acked) × ((f r).answer ≡ r.answer) × (notes_of (f r) ≡ notes_of r)

aside_seen : (b : Bool) (f : Register → Register) (o : Option Register) (greatest : ℕ) (last : Option Answer) (token : Option NotedRow) → LeavesSeen f
    → IfSome o (HasSeen greatest last token) → IfSome (cond b (option_map f o) o) (HasSeen greatest last token)
aside_seen true f None greatest last token same h = tt
aside_seen false f None greatest last token same h = tt
aside_seen true f (Some r) greatest last token same h =
    record { acked = (same r).0 ∙ h.acked; answer = (same r).1 ∙ h.answer; noted = noted_same token (f r) r (same r).2 h.noted }
aside_seen false f (Some r) greatest last token same h = h

pub seen_aside : (journal : List Row) (now : List Register) (n : ℕ) (f : Register → Register) → ((r : Register) → (f r).number ≡ r.number)
    → LeavesSeen f → FitsSeen journal now → FitsSeen journal (at_number n f now)
seen_aside journal now n f number same h = record {
  rows = h.rows;
  registers = λ m. (let P : Option Register → Type 0 = λ o. HasNow journal m o in
      subst P (sym (find-change n m f number now)) (aside_seen (nat_eq n m) f (register m now) (seen_acked m journal) (option_map seen_answer (last_seen m journal)) (last_noted m journal) same (h.registers m)));
  answered = h.answered;
  heard = h.heard;
  told = h.told;
}
