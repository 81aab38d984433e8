-- Registers have what was sent last, as rows come.
use Rattle.std.proofs.Common.{◌≡◌, ℕ, ◌+◌, ◌^◌, ◌<◌, ◌≤◌, Bool, true, false, cond, List, [], ◌∷◌, ◌++◌, Option, Some, None, IsSome, IfSome, MatchOption, max, length, nat_eq, option_map, refl, sym, ap, ◌∙◌, subst, inl, inr, arith, append_assoc, append-nil, length-append, eqb-true}
use Rattle.std.proofs.lemmas.Bool.{cases_Bool}
use Rattle.std.proofs.lemmas.List.Sums.{fold_push}
use Rattle.lang_core.specs.declared.request.Request.{Request}
use Rattle.journal_rows.specs.Words.{sent_step, last_sent, named_step, named}
use Rattle.journal_rows.specs.declared.caller.SentRow.{SentRow}
use Rattle.journal_rows.specs.declared.row.Row.{Row}
use Rattle.journal_rows.specs.declared.row.Row.TheVariants.{Sent, SawAck, Noted, SawAnswer}
use Rattle.call_registers.specs.Changes.{raised}
use Rattle.call_registers.specs.Registers.{register, at_number, first_register, next_number, sent_anew, with_ack, with_answer, with_note, is_newer, IsNumbered}
use Rattle.call_registers.specs.declared.register.Answer.{Answer}
use Rattle.call_registers.specs.declared.register.Register.{Register}
use Rattle.call_registers.proofs.ChangeLemmas.{numbered_push}
use Rattle.service_events.specs.Calls.{first_sent, put_sent, seen_answer, after_row, after_rows}
use Rattle.service_events.specs.Fits.{EachAfter, SendsOn, FitsSent, sent_by}
use Rattle.service_events.proofs.CallRowLemmas.{EachAfter-append, go_on, all_follow}
use Rattle.service_events.proofs.NoteLemmas.{KeepsNotes}
use Rattle.service_events.proofs.RegisterLemmas.{found_number, next_none, found_within, find-change, length-change, numbered_change, find-push}

-- ---- numbers that were named

abbrev IsNamed : ℕ → List Row → Type 0
IsNamed n j = IfSome (last_sent n j) (λ _. n ≤ named j)

named_above : (n m most : ℕ) (last : Option SentRow) → IfSome last (λ _. n ≤ most) → IfSome last (λ _. n ≤ max most m)
named_above n m most None h = tt
named_above n m most (Some s) h = omega arith

named_stays : (n : ℕ) (before : List Row) (row : Row) → IsNamed n before
    → IfSome (sent_step n (last_sent n before) row) (λ _. n ≤ named_step (named before) row)
named_stays n before (Sent s) h = elim (cases_Bool (nat_eq s.number n)) [
  | inl is ↦ rw is (let same = eqb-true s.number n is in omega (arith, same))
  | inr differs ↦ rw differs (named_above n s.number (named before) (last_sent n before) h)
]
named_stays n before row h = h

is_named : (n : ℕ) (j : List Row) → IsNamed n j
is_named n j = go_on (λ _ _. Unit {0}) (IsNamed n)
    (λ before row _ h. rw (fold_push (sent_step n) None before row, fold_push named_step 0 before row) (named_stays n before row h)) j [] (all_follow j []) tt

none_named : (n : ℕ) (o : Option SentRow) (most : ℕ) → IfSome o (λ _. n ≤ most) → most < n → o ≡ None
none_named n None most h l = refl
none_named n (Some s) most h l = absurd (omega (arith, h, l))

-- a number above those that were named was never sent
pub not_sent : (j : List Row) (n : ℕ) → named j < n → last_sent n j ≡ None
not_sent j n above = none_named n (last_sent n j) (named j) (is_named n j) above

-- ---- versions are no more than rows

abbrev IsWithin : List Row → Type 0
IsWithin j = (n : ℕ) → IfSome (last_sent n j) (λ s. s.version ≤ length j)

abbrev pub MaySend : ℕ → SentRow → Option SentRow → Type 0
MaySend most s last =
    MatchOption last
    ((s.number ≡ most + 1) × (s.version ≡ 1) × IsSome s.desired)
    (λ l. (s.dest ≡ l.dest) × (s.version ≡ l.version + 1) × IsSome l.desired)

version_next : (s : SentRow) (most many : ℕ) (o : Option SentRow) → IfSome o (λ l. l.version ≤ many) → MaySend most s o → s.version ≤ many + 1
version_next s most many None h may = (let one = may.1 in omega (arith, one))
version_next s most many (Some l) h may = (let more = may.1 in omega (arith, more, h))

older_within : (o : Option SentRow) (many : ℕ) → IfSome o (λ s. s.version ≤ many) → IfSome o (λ s. s.version ≤ many + 1)
older_within None many h = tt
older_within (Some s) many h = omega (arith, h)

within_stays : (before : List Row) (row : Row) → SendsOn before row → IsWithin before
    → (n : ℕ) → IfSome (sent_step n (last_sent n before) row) (λ s. s.version ≤ length before + 1)
within_stays before (Sent s) may h n = elim (cases_Bool (nat_eq s.number n)) [
  | inl is ↦ rw is (version_next s (named before) (length before) (last_sent s.number before) (h s.number) may)
  | inr differs ↦ rw differs (older_within (last_sent n before) (length before) (h n))
]
within_stays before row may h n = older_within (last_sent n before) (length before) (h n)

is_within : (j : List Row) → EachAfter SendsOn [] j → IsWithin j
is_within j may = go_on SendsOn IsWithin
    (λ before row f h n. (let one : length (before ++ row ∷ []) ≡ length before + 1 = omega (arith, length-append before (row ∷ [])) in
    rw (fold_push (sent_step n) None before row, one) (within_stays before row f h n))) j [] may (λ n. tt)

-- the version of a number's register is at most how many rows there are
pub version_within : (journal : List Row) (now : List Register) (n : ℕ) (r : Register) → FitsSent journal now → register n now ≡ Some r
    → r.version ≤ length journal
version_within journal now n r f found =
    let last : last_sent n journal ≡ Some (sent_by r) = sym (f.registers n) ∙ ap (option_map sent_by) found in
    (let P : Option SentRow → Type 0 = λ o. IfSome o (λ x. x.version ≤ length journal) in subst P last (is_within journal f.rows n))

-- ---- a version more

abbrev pub acked_in : Option Register → ℕ
acked_in None = 0
acked_in (Some r) = r.acked

abbrev pub answer_in : Option Register → Option Answer
answer_in None = None
answer_in (Some r) = r.answer

-- what a sent version makes of registers
pub record Put (journal : List Row) (now : List Register) (s : SentRow) (end : List Register) : Type 0 where
  pub made : Register
  pub found : (m : ℕ) → register m end ≡ cond (nat_eq s.number m) (Some made) (register m now)
  pub sent : sent_by made ≡ s
  pub acked : made.acked ≡ acked_in (register s.number now)
  pub answer : made.answer ≡ answer_in (register s.number now)
  pub notes : KeepsNotes (register s.number now) made
  pub count : length end ≡ max (named journal) s.number
  pub numbered : IsNumbered end

sent_is : (s : SentRow) (number : ℕ) (dest : List ℕ) (version : ℕ) (desired : Option Request) → number ≡ s.number → dest ≡ s.dest → version ≡ s.version
    → desired ≡ s.desired → record { number = number; dest = dest; version = version; desired = desired } ≡ s
sent_is s number dest version desired a b c d = λ i. record { number = a i; dest = b i; version = c i; desired = d i }

put_first : (journal : List Row) (now : List Register) (at : ℕ) (s : SentRow) (d : Option Request) → FitsSent journal now → s.desired ≡ d
    → register s.number now ≡ None → (s.number ≡ named journal + 1) × (s.version ≡ 1) × IsSome s.desired → Put journal now s (first_sent at s d now)
put_first journal now at s None f is none may = absurd (no_none (let P : Option Request → Type 0 = λ o. IsSome o in subst P is may.2))
  where
    no_none : IsSome {T = Request} None → ⊥
    no_none h = cc
put_first journal now at s (Some q) f is none may =
    let made = first_register (next_number now) s.dest q at in
    let next : next_number now ≡ s.number = (let new = may.0 in omega (arith, new, f.count)) in
    let gone : register (next_number now) now ≡ None = next_none now f.numbered in
    record {
      made = made;
      found = λ m. find-push m now made gone ∙ ap (λ k. cond (nat_eq k m) (Some made) (register m now)) next;
      sent = sent_is s (next_number now) s.dest 1 (Some q) next refl (sym may.1) (sym is);
      acked = sym (ap acked_in none);
      answer = sym (ap answer_in none);
      notes = (let P : Option Register → Type 0 = λ o. KeepsNotes o made in subst P (sym none) (refl, refl, refl));
      count = (let new = may.0 in let one = length-append now (made ∷ []) in omega (arith, new, one, f.count));
      numbered = numbered_push now made f.numbered refl;
    }

put_next : (journal : List Row) (now : List Register) (at : ℕ) (s : SentRow) (r : Register) (l : SentRow) → FitsSent journal now
    → length journal + 1 < 2 ^ 64 → register s.number now ≡ Some r → last_sent s.number journal ≡ Some l → sent_by r ≡ l
    → (s.dest ≡ l.dest) × (s.version ≡ l.version + 1) × IsSome l.desired → Put journal now s (at_number s.number (sent_anew s.desired at) now)
put_next journal now at s r l f few found last same may =
    let again = sent_anew s.desired at in
    let within : l.version ≤ length journal = (let P : Option SentRow → Type 0 = λ o. IfSome o (λ x. x.version ≤ length journal) in subst P last (is_within journal f.rows s.number)) in
    let was : r.version ≡ l.version = ap (λ (x : SentRow). x.version) same in
    let version : raised r.version ≡ s.version = (let next = may.1 in omega (arith, was, within, few, next)) in
    let below : s.number ≤ length now = found_within s.number now r f.numbered found in
    record {
      made = again r;
      found = λ m. find-change s.number m again (λ x. refl) now ∙ found_at m;
      sent = sent_is s r.number r.dest (raised r.version) s.desired (found_number s.number now r found) (ap (λ (x : SentRow). x.dest) same ∙ sym may.0) version refl;
      acked = sym (ap acked_in found);
      answer = sym (ap answer_in found);
      notes = (let P : Option Register → Type 0 = λ o. KeepsNotes o (again r) in subst P (sym found) refl);
      count = length-change (λ x. nat_eq x.number s.number) again now ∙ omega (arith, f.count, below);
      numbered = numbered_change s.number again (λ x. refl) now f.numbered;
    }
  where
    found_at : (m : ℕ) → cond (nat_eq s.number m) (option_map (sent_anew s.desired at) (register m now)) (register m now)
        ≡ cond (nat_eq s.number m) (Some (sent_anew s.desired at r)) (register m now)
    found_at m = elim (cases_Bool (nat_eq s.number m)) [
      | inl is ↦ rw is (ap (option_map (sent_anew s.desired at)) (ap (λ k. register k now) (sym (eqb-true s.number m is)) ∙ found))
      | inr differs ↦ rw differs refl
    ]

put_by : (journal : List Row) (now : List Register) (at : ℕ) (s : SentRow) (o : Option Register) (last : Option SentRow) → FitsSent journal now
    → length journal + 1 < 2 ^ 64 → register s.number now ≡ o → last_sent s.number journal ≡ last → option_map sent_by o ≡ last
    → MaySend (named journal) s last → Put journal now s (put_sent at s o now)
put_by journal now at s None None f few found last same may = put_first journal now at s s.desired f refl found may
put_by journal now at s None (Some l) f few found last same may = cc
put_by journal now at s (Some r) None f few found last same may = cc
put_by journal now at s (Some r) (Some l) f few found last same may = put_next journal now at s r l f few found last (some_of (sent_by r) l same) may
  where
    some_of : (x y : SentRow) → Some x ≡ Some y → x ≡ y
    some_of x y e = cc

pub put : (journal : List Row) (now : List Register) (at : ℕ) (s : SentRow) → FitsSent journal now → length journal + 1 < 2 ^ 64
    → SendsOn journal (Sent s) → Put journal now s (after_row at now (Sent s))
put journal now at s f few may =
    put_by journal now at s (register s.number now) (last_sent s.number journal) f few refl refl (f.registers s.number) may

-- ---- a row more

-- a change that leaves number, service, version and request
pub record IsAside (f : Register → Register) : Type 0 where
  pub number : (r : Register) → (f r).number ≡ r.number
  pub sent : (r : Register) → sent_by (f r) ≡ sent_by r

aside_same : (b : Bool) (f : Register → Register) (o : Option Register) → ((r : Register) → sent_by (f r) ≡ sent_by r)
    → option_map sent_by (cond b (option_map f o) o) ≡ option_map sent_by o
aside_same true f None h = refl
aside_same true f (Some r) h = ap Some (h r)
aside_same false f o h = refl

pub fits_aside : (journal : List Row) (now : List Register) (n : ℕ) (f : Register → Register) → IsAside f → FitsSent journal now
    → FitsSent journal (at_number n f now)
fits_aside journal now n f a h = record {
  rows = h.rows;
  registers = λ m. ap (option_map sent_by) (find-change n m f a.number now) ∙ aside_same (nat_eq n m) f (register m now) a.sent ∙ h.registers m;
  count = length-change (λ x. nat_eq x.number n) f now ∙ h.count;
  numbered = numbered_change n f a.number now h.numbered;
}

pub ack_aside : (version : ℕ) → IsAside (with_ack version)
ack_aside version = record { number = λ r. refl; sent = λ r. refl }

pub answer_aside : (a : Answer) → IsAside (with_answer a)
answer_aside a = record {
  number = λ r. (elim (cases_Bool (is_newer r.answer a.answer_version)) [
    | inl is ↦ rw is refl
    | inr differs ↦ rw differs refl
  ]);
  sent = λ r. (elim (cases_Bool (is_newer r.answer a.answer_version)) [
    | inl is ↦ rw is refl
    | inr differs ↦ rw differs refl
  ]);
}

pub note_aside : (answer_version : ℕ) (who : List ℕ) (rule since : ℕ) → IsAside (with_note answer_version who rule since)
note_aside answer_version who rule since = record { number = λ r. refl; sent = λ r. refl }

sent_choice : (b : Bool) (made : Register) (s : SentRow) (o : Option Register) (last : Option SentRow) → sent_by made ≡ s → option_map sent_by o ≡ last
    → option_map sent_by (cond b (Some made) o) ≡ cond b (Some s) last
sent_choice true made s o last e h = ap Some e
sent_choice false made s o last e h = h

-- a row that sends nothing leaves what was sent
pub fits_unsent : (journal : List Row) (now : List Register) (row : Row) → SendsOn journal row
    → ((n : ℕ) (last : Option SentRow) → sent_step n last row ≡ last) → ((most : ℕ) → named_step most row ≡ most)
    → FitsSent journal now → FitsSent (journal ++ row ∷ []) now
fits_unsent journal now row may steps names f = record {
  rows = EachAfter-append SendsOn journal (row ∷ []) [] f.rows (may, tt);
  registers = λ m. f.registers m ∙ sym (fold_push (sent_step m) None journal row ∙ steps m (last_sent m journal));
  count = f.count ∙ sym (fold_push named_step 0 journal row ∙ names (named journal));
  numbered = f.numbered;
}

pub fits_row : (journal : List Row) (now : List Register) (row : Row) → length journal + 1 < 2 ^ 64 → SendsOn journal row → FitsSent journal now
    → FitsSent (journal ++ row ∷ []) (after_row (length journal) now row)
fits_row journal now (Sent s) few may f =
    let p = put journal now (length journal) s f few may in
    record {
      rows = EachAfter-append SendsOn journal (Sent s ∷ []) [] f.rows (may, tt);
      registers = λ m. ap (option_map sent_by) (p.found m)
          ∙ sent_choice (nat_eq s.number m) p.made s (register m now) (last_sent m journal) p.sent (f.registers m)
          ∙ sym (fold_push (sent_step m) None journal (Sent s));
      count = p.count ∙ sym (fold_push named_step 0 journal (Sent s));
      numbered = p.numbered;
    }
fits_row journal now (SawAck a) few may f =
    fits_unsent journal (after_row (length journal) now (SawAck a)) (SawAck a) tt (λ n last. refl) (λ most. refl)
    (fits_aside journal now a.number (with_ack a.version) (ack_aside a.version) f)
fits_row journal now (Noted t) few may f =
    fits_unsent journal (after_row (length journal) now (Noted t)) (Noted t) tt (λ n last. refl) (λ most. refl)
    (fits_aside journal now t.number (with_note t.answer_version t.who t.rule (length journal)) (note_aside t.answer_version t.who t.rule (length journal)) f)
fits_row journal now (SawAnswer a) few may f =
    fits_unsent journal (after_row (length journal) now (SawAnswer a)) (SawAnswer a) tt (λ n last. refl) (λ most. refl)
    (fits_aside journal now a.number (with_answer (seen_answer a)) (answer_aside (seen_answer a)) f)
fits_row journal now row few may f = fits_unsent journal now row may (λ n last. refl) (λ most. refl) f

-- and rows more
pub fits_rows : (rows journal : List Row) (now : List Register) → length journal + length rows < 2 ^ 64 → EachAfter SendsOn journal rows
    → FitsSent journal now → FitsSent (journal ++ rows) (after_rows (length journal) now rows)
fits_rows [] journal now few h f = (let P : List Row → Type 0 = λ j. FitsSent j now in subst P (sym (append-nil journal)) f)
fits_rows (row ∷ rows) journal now few h f =
    let one : length (journal ++ row ∷ []) ≡ length journal + 1 = omega (arith, length-append journal (row ∷ [])) in
    let mid = after_row (length journal) now row in
    let rest = fits_rows rows (journal ++ row ∷ []) mid (omega (arith, few, one)) h.1 (fits_row journal now row (omega (arith, few)) h.0 f) in
    let P : ℕ → Type 0 = λ k. FitsSent ((journal ++ row ∷ []) ++ rows) (after_rows k mid rows) in
    let Q : List Row → Type 0 = λ j. FitsSent j (after_rows (length journal) now (row ∷ rows)) in
    subst Q (append_assoc journal (row ∷ []) rows) (subst P one rest)
