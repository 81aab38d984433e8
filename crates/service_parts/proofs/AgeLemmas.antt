-- The last row of a kind as rows come, and the ages of calls, fetches and replies.
use Rattle.std.proofs.Common.{◌≡◌, ℕ, ◌+◌, ◌^◌, ◌<◌, ◌≤◌, Bool, true, false, ◌||◌, cond, List, [], ◌∷◌, ◌++◌, Option, Some, None, IsSome, MatchOption, length, map, nat_eq, option_map, refl, sym, ap, ◌∙◌, subst, inl, inr, arith, append_assoc, append-nil, length-append, eqb-true, eq-eqb, ne_eqb}
use Rattle.std.specs.List.{list_any}
use Rattle.std.specs.Option.{option_map_or}
use Rattle.std.proofs.lemmas.Bool.{cases_Bool, cond-true, cond-false}
use Rattle.std.proofs.lemmas.List.{length-map, map-append}
use Rattle.std.proofs.lemmas.List.Folds.{list_any-append}
use Rattle.lang_core.specs.declared.request.Request.{Request}
use Rattle.journal_rows.specs.Words.{last_sent, named}
use Rattle.journal_rows.specs.declared.caller.NotedRow.{NotedRow}
use Rattle.journal_rows.specs.declared.caller.SentRow.{SentRow}
use Rattle.journal_rows.specs.declared.row.Row.{Row}
use Rattle.journal_rows.specs.declared.row.Row.TheVariants.{Acked, Answered, WasConfirmed, Sent, SawAck, Noted, SawAnswer}
use Rattle.call_registers.specs.Changes.{change}
use Rattle.call_registers.specs.Registers.{register, at_number, next_number, first_register, sent_anew, with_ack, with_answer, with_note, is_newer, CountFrom}
use Rattle.call_registers.specs.Replies.{has_entry, at_entry, IsBelowAll, IsRising}
use Rattle.call_registers.specs.declared.register.Answer.{Answer}
use Rattle.call_registers.specs.declared.register.Register.{Register}
use Rattle.call_registers.specs.declared.reply.Reply.{Reply}
use Rattle.service_events.specs.Ages.{IsLastAt, IsNotedAt, sends, notes, marks_reply}
use Rattle.service_events.specs.Calls.{after_row, after_rows, put_sent, first_sent, seen_answer}
use Rattle.service_events.specs.Fits.{EachAfter, FitsSent, SendsOn, sent_by}
use Rattle.service_events.specs.State.{Kept}
use Rattle.service_events.proofs.RegisterLemmas.{flip_false}
use Rattle.service_events.proofs.CallRowLemmas.{Each, EachAfter-behind, each_append, each_weaker}
use Rattle.service_events.proofs.SentLemmas.{fits_row}

-- ---- the last row of a kind

-- neither of two
neither_any : (a b : Bool) → a ≡ false → b ≡ false → (a || b) ≡ false
neither_any a b h k = rw h k

-- rows that don't pass leave it the last
pub last_stays : (passes : Row → Bool) (journal rows : List Row) (index : ℕ) → list_any passes rows ≡ false → IsLastAt passes journal index
    → IsLastAt passes (journal ++ rows) index
last_stays passes journal rows index none l = record {
  before = l.before;
  row = l.row;
  behind = l.behind ++ rows;
  is = ap (λ j. j ++ rows) l.is ∙ append_assoc l.before (l.row ∷ l.behind) rows;
  at = l.at;
  it = l.it;
  last = list_any-append passes l.behind rows ∙ neither_any (list_any passes l.behind) (list_any passes rows) l.last none;
}

-- a row that passes is the last where none behind it does
pub last_here : (passes : Row → Bool) (journal before : List Row) (row : Row) (behind : List Row) (index : ℕ) → length journal + length before ≡ index
    → passes row ≡ true → list_any passes behind ≡ false → IsLastAt passes (journal ++ (before ++ row ∷ behind)) index
last_here passes journal before row behind index at it none = record {
  before = journal ++ before;
  row = row;
  behind = behind;
  is = sym (append_assoc journal before (row ∷ behind));
  at = length-append journal before ∙ at;
  it = it;
  last = none;
}

-- ---- calls

abbrev pub IsAged : List Row → Register → Type 0
IsAged journal r = IsLastAt (sends r.number) journal r.since

-- a row that sends no call
abbrev SendsNone : Row → Type 0
SendsNone row = (number : ℕ) → sends number row ≡ false

pub none_any : (passes : Row → Bool) (row : Row) → passes row ≡ false → list_any passes (row ∷ []) ≡ false
none_any passes row h = rw h refl

stay_aged : (journal : List Row) (row : Row) (rs : List Register) → SendsNone row → Each (IsAged journal) rs → Each (IsAged (journal ++ row ∷ [])) rs
stay_aged journal row rs none h =
    each_weaker (IsAged journal) (IsAged (journal ++ row ∷ []))
    (λ r a. last_stays (sends r.number) journal (row ∷ []) r.since (none_any (sends r.number) row (none r.number)) a) rs h

-- the number of a call, its age, and the version of the last answer that was announced and its age
pub record CallAge : Type 0 where
  pub number : ℕ
  pub since : ℕ
  pub noted : ℕ
  pub noted_since : ℕ

abbrev pub age_of : Register → CallAge
age_of r = record { number = r.number; since = r.since; noted = r.noted; noted_since = r.noted_since }

abbrev IsAgedBy : List Row → CallAge → Type 0
IsAgedBy journal a = IsLastAt (sends a.number) journal a.since

abbrev IsNotedBy : List Row → CallAge → Type 0
IsNotedBy journal a = 1 ≤ a.noted → IsLastAt (notes a.number) journal a.noted_since

-- a change that keeps number and ages
abbrev pub KeepsAge : (Register → Register) → Type 0
KeepsAge f = (r : Register) → age_of (f r) ≡ age_of r

same_aged : (journal : List Row) (r r' : Register) → age_of r' ≡ age_of r → IsAged journal r → IsAged journal r'
same_aged journal r r' same a = subst (IsAgedBy journal) (sym same) a

-- a change of one that keeps what is so of each
each_changed : (P : Register → Type 0) (number : ℕ) (f : Register → Register) (rs : List Register) → ((r : Register) → P r → P (f r)) → Each P rs
    → Each P (at_number number f rs)
each_changed P number f [] keeps h = tt
each_changed P number f (r ∷ rs) keeps h = elim (cases_Bool (nat_eq r.number number)) [
  | inl is ↦ rw is (keeps r h.0, h.1)
  | inr other ↦ rw other (h.0, each_changed P number f rs keeps h.1)
]

pub changed_aged : (journal : List Row) (number : ℕ) (f : Register → Register) (rs : List Register) → KeepsAge f → Each (IsAged journal) rs
    → Each (IsAged journal) (at_number number f rs)
changed_aged journal number f rs keeps h = each_changed (IsAged journal) number f rs (λ r a. same_aged journal r (f r) (keeps r) a) h

pub ack_keeps : (version : ℕ) → KeepsAge (with_ack version)
ack_keeps version r = refl

pub answer_keeps : (a : Answer) → KeepsAge (with_answer a)
answer_keeps a r = by_test (is_newer r.answer a.answer_version)
  where
    by_test : (b : Bool) → age_of (cond b (record r { answer = Some a }) r) ≡ age_of r
    by_test true = refl
    by_test false = refl

pub each_both : {X : Type 0} (P Q R : X → Type 0) → ((x : X) → P x → Q x → R x) → (xs : List X) → Each P xs → Each Q xs → Each R xs
each_both P Q R both [] h k = tt
each_both P Q R both (x ∷ xs) h k = (both x h.0 k.0, each_both P Q R both xs h.1 k.1)

-- numbers from this on are above a lesser one
above_from : (k n : ℕ) (rs : List Register) → CountFrom k rs → n < k → Each (λ (r : Register). nat_eq n r.number ≡ false) rs
above_from k n [] h w = tt
above_from k n (r ∷ rs) h w =
    (ne_eqb n r.number (λ e. omega (arith, e, w, h.0)), above_from (k + 1) n rs h.1 (omega (arith, w)))

-- another version of the call of a number
sent_aged : (k : ℕ) (journal : List Row) (s : SentRow) (rs : List Register) → CountFrom k rs → Each (IsAged journal) rs
    → Each (IsAged (journal ++ Sent s ∷ [])) (at_number s.number (sent_anew s.desired (length journal)) rs)
sent_aged k journal s [] numbered h = tt
sent_aged k journal s (r ∷ rs) numbered h = elim (cases_Bool (nat_eq r.number s.number)) [
  | inl is ↦ (let same = eqb-true r.number s.number is in
      let number = numbered.0 in
      let above = above_from (k + 1) s.number rs numbered.1 (omega (arith, same, number)) in
      let here : sends r.number (Sent s) ≡ true = eq-eqb s.number r.number (sym same) in
      rw is (
        last_here (sends r.number) journal [] (Sent s) [] (length journal) (omega arith) here refl,
        each_both (IsAged journal) (λ (x : Register). nat_eq s.number x.number ≡ false) (IsAged (journal ++ Sent s ∷ []))
            (λ x a other. last_stays (sends x.number) journal (Sent s ∷ []) x.since (none_any (sends x.number) (Sent s) other) a) rs h.1 above,
      ))
  | inr other ↦ (let apart : sends r.number (Sent s) ≡ false = flip_false r.number s.number other in
      rw other (
        last_stays (sends r.number) journal (Sent s ∷ []) r.since (none_any (sends r.number) (Sent s) apart) h.0,
        sent_aged (k + 1) journal s rs numbered.1 h.1,
      ))
]

-- where no register has a number
none_has : (number : ℕ) (rs : List Register) → register number rs ≡ None → Each (λ (r : Register). nat_eq number r.number ≡ false) rs
none_has number [] none = tt
none_has number (r ∷ rs) none = elim (cases_Bool (nat_eq r.number number)) [
  | inl is ↦ (let some : Some r ≡ None = rw is at none in cc)
  | inr other ↦ (flip_false r.number number other, none_has number rs (rw other at none))
]

-- the first version of a call
first_aged : (journal : List Row) (s : SentRow) (d : Option Request) (rs : List Register) → s.number ≡ next_number rs → register s.number rs ≡ None → IsSome d
    → Each (IsAged journal) rs → Each (IsAged (journal ++ Sent s ∷ [])) (first_sent (length journal) s d rs)
first_aged journal s None rs number none some h = cc
first_aged journal s (Some q) rs number none some h =
    let r = first_register (next_number rs) s.dest q (length journal) in
    let here : sends (next_number rs) (Sent s) ≡ true = eq-eqb s.number (next_number rs) number in
    each_append (IsAged (journal ++ Sent s ∷ [])) rs (r ∷ [])
    (each_both (IsAged journal) (λ (x : Register). nat_eq s.number x.number ≡ false) (IsAged (journal ++ Sent s ∷ []))
    (λ x a other. last_stays (sends x.number) journal (Sent s ∷ []) x.since (none_any (sends x.number) (Sent s) other) a) rs h (none_has s.number rs none))
    (last_here (sends (next_number rs)) journal [] (Sent s) [] (length journal) (omega arith) here refl, tt)

unsent : (o : Option Register) (last : Option SentRow) → o ≡ None → option_map sent_by o ≡ last → last ≡ None
unsent None last is e = sym e
unsent (Some r) last is e = cc

put_aged : (journal : List Row) (s : SentRow) (rs : List Register) (o : Option Register) → FitsSent journal rs → SendsOn journal (Sent s) → register s.number rs ≡ o
    → Each (IsAged journal) rs → Each (IsAged (journal ++ Sent s ∷ [])) (put_sent (length journal) s o rs)
put_aged journal s rs (Some r) f may is h = sent_aged 1 journal s rs f.numbered h
put_aged journal s rs None f may is h =
    let last : last_sent s.number journal ≡ None = unsent (register s.number rs) (last_sent s.number journal) is (f.registers s.number) in
    let P : Option SentRow → Type 0 = λ o. MatchOption o
    ((s.number ≡ named journal + 1) × (s.version ≡ 1) × IsSome s.desired)
    (λ last. (s.dest ≡ last.dest) × (s.version ≡ last.version + 1) × IsSome last.desired) in
    let first = subst P last may in
    let number = first.0 in
    let count = f.count in
    first_aged journal s s.desired rs (omega (arith, number, count)) is first.2 h

pub aged_row : (journal : List Row) (rs : List Register) (row : Row) → FitsSent journal rs → SendsOn journal row → Each (IsAged journal) rs
    → Each (IsAged (journal ++ row ∷ [])) (after_row (length journal) rs row)
aged_row journal rs (Sent s) f may h = put_aged journal s rs (register s.number rs) f may refl h
aged_row journal rs (SawAck a) f may h =
    stay_aged journal (SawAck a) (at_number a.number (with_ack a.version) rs) (λ n. refl) (changed_aged journal a.number (with_ack a.version) rs (ack_keeps a.version) h)
aged_row journal rs (Noted t) f may h =
    let since = length journal in
    stay_aged journal (Noted t) (at_number t.number (with_note t.answer_version t.who t.rule since) rs) (λ n. refl)
    (each_changed (IsAged journal) t.number (with_note t.answer_version t.who t.rule since) rs (λ r a. a) h)
aged_row journal rs (SawAnswer a) f may h =
    stay_aged journal (SawAnswer a) (at_number a.number (with_answer (seen_answer a)) rs) (λ n. refl)
    (changed_aged journal a.number (with_answer (seen_answer a)) rs (answer_keeps (seen_answer a)) h)
aged_row journal rs row f may h = stay_aged journal row rs (λ n. refl) h

-- ---- fetches

-- a row that announces no answer
abbrev NotesNone : Row → Type 0
NotesNone row = (number : ℕ) → notes number row ≡ false

stay_noted : (journal : List Row) (row : Row) (rs : List Register) → NotesNone row → Each (IsNotedAt journal) rs → Each (IsNotedAt (journal ++ row ∷ [])) rs
stay_noted journal row rs none h =
    each_weaker (IsNotedAt journal) (IsNotedAt (journal ++ row ∷ []))
    (λ r a some. last_stays (notes r.number) journal (row ∷ []) r.noted_since (none_any (notes r.number) row (none r.number)) (a some)) rs h

answer_noted : (journal : List Row) (a : Answer) (r : Register) → IsNotedAt journal r → IsNotedAt journal (with_answer a r)
answer_noted journal a r h = subst (IsNotedBy journal) (sym (answer_keeps a r)) h

-- of a new call nothing was announced
first_noted : (journal : List Row) (at : ℕ) (s : SentRow) (d : Option Request) (rs : List Register) → Each (IsNotedAt journal) rs
    → Each (IsNotedAt journal) (first_sent at s d rs)
first_noted journal at s None rs h = h
first_noted journal at s (Some q) rs h =
    each_append (IsNotedAt journal) rs (first_register (next_number rs) s.dest q at ∷ []) h (λ some. absurd (omega (arith, some)), tt)

put_noted : (journal : List Row) (at : ℕ) (s : SentRow) (rs : List Register) (o : Option Register) → Each (IsNotedAt journal) rs
    → Each (IsNotedAt journal) (put_sent at s o rs)
put_noted journal at s rs (Some r) h = each_changed (IsNotedAt journal) s.number (sent_anew s.desired at) rs (λ r a. a) h
put_noted journal at s rs None h = first_noted journal at s s.desired rs h

-- another answer to the call of a number is announced
noted_token : (k : ℕ) (journal : List Row) (t : NotedRow) (rs : List Register) → CountFrom k rs → Each (IsNotedAt journal) rs
    → Each (IsNotedAt (journal ++ Noted t ∷ [])) (at_number t.number (with_note t.answer_version t.who t.rule (length journal)) rs)
noted_token k journal t [] numbered h = tt
noted_token k journal t (r ∷ rs) numbered h = elim (cases_Bool (nat_eq r.number t.number)) [
  | inl is ↦ (let same = eqb-true r.number t.number is in
      let number = numbered.0 in
      let above = above_from (k + 1) t.number rs numbered.1 (omega (arith, same, number)) in
      let here : notes r.number (Noted t) ≡ true = eq-eqb t.number r.number (sym same) in
      rw is (
        λ some. last_here (notes r.number) journal [] (Noted t) [] (length journal) (omega arith) here refl,
        each_both (IsNotedAt journal) (λ (x : Register). nat_eq t.number x.number ≡ false) (IsNotedAt (journal ++ Noted t ∷ []))
            (λ x a other some. last_stays (notes x.number) journal (Noted t ∷ []) x.noted_since (none_any (notes x.number) (Noted t) other) (a some)) rs h.1 above,
      ))
  | inr other ↦ (let apart : notes r.number (Noted t) ≡ false = flip_false r.number t.number other in
      rw other (
        λ some. last_stays (notes r.number) journal (Noted t ∷ []) r.noted_since (none_any (notes r.number) (Noted t) apart) (h.0 some),
        noted_token (k + 1) journal t rs numbered.1 h.1,
      ))
]

pub noted_row : (journal : List Row) (rs : List Register) (row : Row) → FitsSent journal rs → SendsOn journal row → Each (IsNotedAt journal) rs
    → Each (IsNotedAt (journal ++ row ∷ [])) (after_row (length journal) rs row)
noted_row journal rs (Sent s) f may h =
    stay_noted journal (Sent s) (after_row (length journal) rs (Sent s)) (λ n. refl) (put_noted journal (length journal) s rs (register s.number rs) h)
noted_row journal rs (SawAck a) f may h =
    stay_noted journal (SawAck a) (at_number a.number (with_ack a.version) rs) (λ n. refl) (each_changed (IsNotedAt journal) a.number (with_ack a.version) rs (λ r a. a) h)
noted_row journal rs (Noted t) f may h = noted_token 1 journal t rs f.numbered h
noted_row journal rs (SawAnswer a) f may h =
    stay_noted journal (SawAnswer a) (at_number a.number (with_answer (seen_answer a)) rs) (λ n. refl)
    (each_changed (IsNotedAt journal) a.number (with_answer (seen_answer a)) rs (answer_noted journal (seen_answer a)) h)
noted_row journal rs row f may h = stay_noted journal row rs (λ n. refl) h

-- ---- as rows come

-- what a row keeps of calls and their ages, rows keep
module _ (Q : List Row → CallAge → Type 0) (one : (journal : List Row) (rs : List Register) (row : Row) → FitsSent journal rs → SendsOn journal row
    → Each (λ (r : Register). Q journal (age_of r)) rs → Each (λ (r : Register). Q (journal ++ row ∷ []) (age_of r)) (after_row (length journal) rs row)) where
  abbrev pub IsSo : List Row → Register → Type 0
  IsSo journal r = Q journal (age_of r)

  pub rows_keep : (rows journal : List Row) (rs : List Register) → length journal + length rows < 2 ^ 64 → EachAfter SendsOn journal rows → FitsSent journal rs
      → Each (IsSo journal) rs → Each (IsSo (journal ++ rows)) (after_rows (length journal) rs rows)
  rows_keep [] journal rs few may f h = (let P : List Row → Type 0 = λ j. Each (IsSo j) rs in subst P (sym (append-nil journal)) h)
  rows_keep (row ∷ rows) journal rs few may f h =
      let next : length (journal ++ row ∷ []) ≡ length journal + 1 = omega (arith, length-append journal (row ∷ [])) in
      let mid = after_row (length journal) rs row in
      let fits = fits_row journal rs row (omega (arith, few)) may.0 f in
      let rest = rows_keep rows (journal ++ row ∷ []) mid (omega (arith, few, next)) may.1 fits (one journal rs row f may.0 h) in
      let P : ℕ → Type 0 = λ k. Each (IsSo ((journal ++ row ∷ []) ++ rows)) (after_rows k mid rows) in
      let R : List Row → Type 0 = λ j. Each (IsSo j) (after_rows (length journal) rs (row ∷ rows)) in
      subst R (append_assoc journal (row ∷ []) rows) (subst P next rest)

-- ---- numbers and ages alone

abbrev pub ages : List Register → List CallAge
ages rs = map age_of rs

abbrev pub has_age : ℕ → CallAge → Bool
has_age number a = nat_eq a.number number

-- a call that is sent anew, and one of which an answer is announced
abbrev pub sent_at : ℕ → CallAge → CallAge
sent_at at a = record a { since = at }

abbrev pub noted_at : ℕ → ℕ → CallAge → CallAge
noted_at answer_version at a = record a { noted = answer_version; noted_since = at }

abbrev pub first_age : ℕ → ℕ → CallAge
first_age number at = record { number = number; since = at; noted = 0; noted_since = 0 }

abbrev pub age_first : Option Request → ℕ → List CallAge → List CallAge
age_first d at pairs = option_map_or (λ q. pairs ++ first_age (length pairs + 1) at ∷ []) d pairs

-- what a row makes of them
abbrev pub age_row : ℕ → List CallAge → Row → List CallAge
age_row at pairs (Sent s) = cond (list_any (has_age s.number) pairs) (change (has_age s.number) (sent_at at) pairs) (age_first s.desired at pairs)
age_row at pairs (Noted t) = change (has_age t.number) (noted_at t.answer_version at) pairs
age_row at pairs row = pairs

abbrev pub age_rows : ℕ → List CallAge → List Row → List CallAge
age_rows at pairs [] = pairs
age_rows at pairs (row ∷ rows) = age_rows (at + 1) (age_row at pairs row) rows

pub ages_same : (number : ℕ) (f : Register → Register) (rs : List Register) → KeepsAge f → ages (at_number number f rs) ≡ ages rs
ages_same number f [] keeps = refl
ages_same number f (r ∷ rs) keeps = elim (cases_Bool (nat_eq r.number number)) [
  | inl is ↦ rw is (ap (λ a. a ∷ ages rs) (keeps r))
  | inr other ↦ rw other (ap (λ pairs. age_of r ∷ pairs) (ages_same number f rs keeps))
]

ages_sent : (number at : ℕ) (d : Option Request) (rs : List Register)
    → ages (at_number number (sent_anew d at) rs) ≡ change (has_age number) (sent_at at) (ages rs)
ages_sent number at d [] = refl
ages_sent number at d (r ∷ rs) = elim (cases_Bool (nat_eq r.number number)) [
  | inl is ↦ rw is refl
  | inr other ↦ rw other (ap (λ pairs. age_of r ∷ pairs) (ages_sent number at d rs))
]

ages_noted_one : (t : NotedRow) (at : ℕ) (rs : List Register)
    → ages (at_number t.number (with_note t.answer_version t.who t.rule at) rs) ≡ change (has_age t.number) (noted_at t.answer_version at) (ages rs)
ages_noted_one t at [] = refl
ages_noted_one t at (r ∷ rs) = elim (cases_Bool (nat_eq r.number t.number)) [
  | inl is ↦ rw is refl
  | inr other ↦ rw other (ap (λ pairs. age_of r ∷ pairs) (ages_noted_one t at rs))
]

ages_known : (number : ℕ) (rs : List Register) (o : Option Register) → register number rs ≡ o → list_any (has_age number) (ages rs) ≡ option_map_or (λ r. true) o false
ages_known number [] None is = refl
ages_known number [] (Some r) is = cc
ages_known number (x ∷ rs) o is = elim (cases_Bool (nat_eq x.number number)) [
  | inl here ↦ (let some : Some x ≡ o = rw here at is in
      let P : Option Register → Type 0 = λ o. true ≡ option_map_or (λ r. true) o false in
      rw here (subst P some refl))
  | inr other ↦ rw other (ages_known number rs o (rw other at is))
]

ages_first : (at : ℕ) (s : SentRow) (d : Option Request) (rs : List Register) → ages (first_sent at s d rs) ≡ age_first d at (ages rs)
ages_first at s None rs = refl
ages_first at s (Some q) rs =
    map-append age_of rs (first_register (next_number rs) s.dest q at ∷ [])
    ∙ ap (λ n. ages rs ++ first_age (n + 1) at ∷ []) (sym (length-map rs age_of))

ages_put : (at : ℕ) (s : SentRow) (rs : List Register) (o : Option Register) → register s.number rs ≡ o
    → ages (put_sent at s o rs)
    ≡ cond (list_any (has_age s.number) (ages rs)) (change (has_age s.number) (sent_at at) (ages rs)) (age_first s.desired at (ages rs))
ages_put at s rs (Some r) is =
    ages_sent s.number at s.desired rs
    ∙ sym (cond-true (list_any (has_age s.number) (ages rs)) (change (has_age s.number) (sent_at at) (ages rs)) (age_first s.desired at (ages rs)) (ages_known s.number rs (Some r) is))
ages_put at s rs None is =
    ages_first at s s.desired rs
    ∙ sym (cond-false (list_any (has_age s.number) (ages rs)) (change (has_age s.number) (sent_at at) (ages rs)) (age_first s.desired at (ages rs)) (ages_known s.number rs None is))

ages_row : (at : ℕ) (rs : List Register) (row : Row) → ages (after_row at rs row) ≡ age_row at (ages rs) row
ages_row at rs (Sent s) = ages_put at s rs (register s.number rs) refl
ages_row at rs (SawAck a) = ages_same a.number (with_ack a.version) rs (ack_keeps a.version)
ages_row at rs (Noted t) = ages_noted_one t at rs
ages_row at rs (SawAnswer a) = ages_same a.number (with_answer (seen_answer a)) rs (answer_keeps (seen_answer a))
ages_row at rs row = refl

ages_rows : (at : ℕ) (rs : List Register) (rows : List Row) → ages (after_rows at rs rows) ≡ age_rows at (ages rs) rows
ages_rows at rs [] = refl
ages_rows at rs (row ∷ rows) = ages_rows (at + 1) (after_row at rs row) rows ∙ ap (λ pairs. age_rows (at + 1) pairs rows) (ages_row at rs row)

age_rows-append : (at : ℕ) (pairs : List CallAge) (xs ys : List Row) → age_rows at pairs (xs ++ ys) ≡ age_rows (at + length xs) (age_rows at pairs xs) ys
age_rows-append at pairs [] ys = ap (λ k. age_rows k pairs ys) (omega arith)
age_rows-append at pairs (x ∷ xs) ys =
    let more : at + 1 + length xs ≡ at + length (x ∷ xs) = omega arith in
    age_rows-append (at + 1) (age_row at pairs x) xs ys ∙ ap (λ k. age_rows k (age_rows (at + 1) (age_row at pairs x) xs) ys) more

-- rows came, and the calls' ages are what they make of them
pub record Ages (s t : Kept) : Type 0 where
  pub rows : List Row
  pub is : t.journal ≡ s.journal ++ rows
  pub left : ages t.registers ≡ age_rows (length s.journal) (ages s.registers) rows

-- none came
pub ages_stay : (s t : Kept) → t.journal ≡ s.journal → ages t.registers ≡ ages s.registers → Ages s t
ages_stay s t same kept = record { rows = []; is = same ∙ sym (append-nil s.journal); left = kept }

pub ages_noted : (s t : Kept) (rows : List Row) → t.journal ≡ s.journal ++ rows → t.registers ≡ after_rows (length s.journal) s.registers rows → Ages s t
ages_noted s t rows is registers =
    record { rows = rows; is = is; left = ap ages registers ∙ ages_rows (length s.journal) s.registers rows }

pub ages_then : (s t u : Kept) → Ages s t → Ages t u → Ages s u
ages_then s t u a b = record {
  rows = a.rows ++ b.rows;
  is = b.is ∙ ap (λ j. j ++ b.rows) a.is ∙ append_assoc s.journal a.rows b.rows;
  left = b.left
      ∙ ap (λ k. age_rows k (ages t.registers) b.rows) (ap length a.is ∙ length-append s.journal a.rows)
      ∙ ap (λ pairs. age_rows (length s.journal + length a.rows) pairs b.rows) a.left
      ∙ sym (age_rows-append (length s.journal) (ages s.registers) a.rows b.rows);
}

module _ (Q : List Row → CallAge → Type 0) where
  to_ages : (journal : List Row) (rs : List Register) → Each (λ (r : Register). Q journal (age_of r)) rs → Each (Q journal) (ages rs)
  to_ages journal [] h = tt
  to_ages journal (r ∷ rs) h = (h.0, to_ages journal rs h.1)

  from_ages : (journal : List Row) (rs : List Register) → Each (Q journal) (ages rs) → Each (λ (r : Register). Q journal (age_of r)) rs
  from_ages journal [] h = tt
  from_ages journal (r ∷ rs) h = (h.0, from_ages journal rs h.1)

  -- so it is kept, where what was sent fits before and after
  ages_kept : ((journal : List Row) (rs : List Register) (row : Row) → FitsSent journal rs → SendsOn journal row
      → Each (λ (r : Register). Q journal (age_of r)) rs → Each (λ (r : Register). Q (journal ++ row ∷ []) (age_of r)) (after_row (length journal) rs row))
      → (s t : Kept) → FitsSent s.journal s.registers → FitsSent t.journal t.registers → length t.journal < 2 ^ 64 → Ages s t
      → Each (λ (r : Register). Q s.journal (age_of r)) s.registers → Each (λ (r : Register). Q t.journal (age_of r)) t.registers
  ages_kept one s t before fits few a h =
      let rows = a.rows in
      let sum = ap length a.is ∙ length-append s.journal rows in
      let all : EachAfter SendsOn [] (s.journal ++ rows) = subst (λ j. EachAfter SendsOn [] j) a.is fits.rows in
      let may = EachAfter-behind SendsOn s.journal rows [] all in
      let aged = rows_keep Q one rows s.journal s.registers (omega (arith, few, sum)) may before h in
      let same : ages (after_rows (length s.journal) s.registers rows) ≡ ages t.registers = ages_rows (length s.journal) s.registers rows ∙ sym a.left in
      let there = subst (λ pairs. Each (Q (s.journal ++ rows)) pairs) same (to_ages (s.journal ++ rows) (after_rows (length s.journal) s.registers rows) aged) in
      from_ages t.journal t.registers (subst (λ j. Each (Q j) (ages t.registers)) (sym a.is) there)

-- calls have their ages still
pub calls_aged : (s t : Kept) → FitsSent s.journal s.registers → FitsSent t.journal t.registers → length t.journal < 2 ^ 64 → Ages s t
    → Each (IsAged s.journal) s.registers → Each (IsAged t.journal) t.registers
calls_aged s t before fits few a h = ages_kept IsAgedBy aged_row s t before fits few a h

-- and so have fetches
pub fetches_aged : (s t : Kept) → FitsSent s.journal s.registers → FitsSent t.journal t.registers → length t.journal < 2 ^ 64 → Ages s t
    → Each (IsNotedAt s.journal) s.registers → Each (IsNotedAt t.journal) t.registers
fetches_aged s t before fits few a h = ages_kept IsNotedBy noted_row s t before fits few a h

-- ---- replies

abbrev pub IsMarked : List Row → Reply → Type 0
IsMarked journal p = IsLastAt (marks_reply p) journal p.since

-- none of these rows marks the reply
abbrev pub IsUnmarked : List Row → Reply → Type 0
IsUnmarked rows p = list_any (marks_reply p) rows ≡ false

-- a row that marks no reply
abbrev pub MarksNone : Row → Type 0
MarksNone (Answered a) = ⊥
MarksNone (Acked a) = ⊥
MarksNone (WasConfirmed c) = ⊥
MarksNone row = Unit {0}

marks_none : (p : Reply) (row : Row) → MarksNone row → marks_reply p row ≡ false
marks_none p (Answered a) h = absurd h
marks_none p (Acked a) h = absurd h
marks_none p (WasConfirmed c) h = absurd h
marks_none p row h = refl

pub unmarked : (p : Reply) (rows : List Row) → Each MarksNone rows → IsUnmarked rows p
unmarked p [] h = refl
unmarked p (row ∷ rows) h = neither_any (marks_reply p row) (list_any (marks_reply p) rows) (marks_none p row h.0) (unmarked p rows h.1)

pub all_unmarked : (ps : List Reply) (rows : List Row) → Each MarksNone rows → Each (IsUnmarked rows) ps
all_unmarked [] rows h = tt
all_unmarked (p ∷ ps) rows h = (unmarked p rows h, all_unmarked ps rows h)

pub unmarked-append : (p : Reply) (xs ys : List Row) → IsUnmarked xs p → IsUnmarked ys p → IsUnmarked (xs ++ ys) p
unmarked-append p xs ys h k =
    list_any-append (marks_reply p) xs ys ∙ neither_any (list_any (marks_reply p) xs) (list_any (marks_reply p) ys) h k

pub replies_stay : (journal rows : List Row) (ps : List Reply) → Each (IsUnmarked rows) ps → Each (IsMarked journal) ps → Each (IsMarked (journal ++ rows)) ps
replies_stay journal rows ps none h =
    each_both (IsMarked journal) (IsUnmarked rows) (IsMarked (journal ++ rows)) (λ p a u. last_stays (marks_reply p) journal rows p.since u a) ps h none

below_apart : (id : ℕ) (ps : List Reply) → IsBelowAll id ps → Each (λ (p : Reply). nat_eq p.id id ≡ false) ps
below_apart id [] h = tt
below_apart id (p ∷ ps) h = (ne_eqb p.id id (λ e. omega (arith, e, h.0)), below_apart id ps h.1)

-- one reply is marked by these rows, and no other
pub reply_marked : (journal rows : List Row) (id : ℕ) (f : Reply → Reply) (ps : List Reply) → IsRising ps
    → Each (λ (p : Reply). nat_eq p.id id ≡ true → IsMarked (journal ++ rows) (f p)) ps
    → Each (λ (p : Reply). nat_eq p.id id ≡ false → IsUnmarked rows p) ps → Each (IsMarked journal) ps → Each (IsMarked (journal ++ rows)) (at_entry id f ps)
reply_marked journal rows id f [] rises here others h = tt
reply_marked journal rows id f (p ∷ ps) rises here others h = elim (cases_Bool (has_entry id p)) [
  | inl is ↦ (let same = eqb-true p.id id is in
      let apart = subst (λ k. Each (λ (x : Reply). nat_eq x.id k ≡ false) ps) same (below_apart p.id ps rises.0) in
      let none = each_both (λ (x : Reply). nat_eq x.id id ≡ false → IsUnmarked rows x) (λ (x : Reply). nat_eq x.id id ≡ false) (IsUnmarked rows) (λ x u a. u a) ps others.1 apart in
      rw is (here.0 is, replies_stay journal rows ps none h.1))
  | inr other ↦ rw other (last_stays (marks_reply p) journal rows p.since (others.0 other) h.0, reply_marked journal rows id f ps rises.1 here.1 others.1 h.1)
]

-- a change of one that keeps whose it is and its age
pub replies_kept : (journal : List Row) (id : ℕ) (f : Reply → Reply) (ps : List Reply) → ((p : Reply) → IsMarked journal p → IsMarked journal (f p))
    → Each (IsMarked journal) ps → Each (IsMarked journal) (at_entry id f ps)
replies_kept journal id f [] keeps h = tt
replies_kept journal id f (p ∷ ps) keeps h = elim (cases_Bool (has_entry id p)) [
  | inl is ↦ rw is (keeps p h.0, h.1)
  | inr other ↦ rw other (h.0, replies_kept journal id f ps keeps h.1)
]
