-- What follows of the rows on own calls.
use Rattle.std.proofs.Common.{◌≡◌, ℕ, ◌+◌, ◌<◌, ◌≤◌, ◌⊎◌, List, [], ◌∷◌, ◌++◌, Option, Some, None, IsSome, IfSome, IsSomeAnd, MatchOption, Contains, max, nat_eq, inl, inr, subst, sym, refl, arith, ◌∙◌, eqb-true, eq-eqb}
use Rattle.std.proofs.lemmas.Bool.{cases_Bool, cond_both, cond-true, cond-false, cases_lt}
use Rattle.std.proofs.lemmas.List.Elements.{Contains-push, Contains-append_left}
use Rattle.std.proofs.lemmas.List.Sums.{fold_push}
use Rattle.std.proofs.Math.Nat.{max-eq_left, max-eq_right}
use Rattle.journal_rows.specs.Words.{sent_step, last_sent, named, ack_step, seen_acked, seen_step, last_seen, with_ack, claim_step, claimed, confirm_step, confirmed_version}
use Rattle.journal_rows.specs.declared.caller.AckHow.{AckHow}
use Rattle.journal_rows.specs.declared.caller.AckHow.TheVariants.{WithAnswer, ToPost}
use Rattle.journal_rows.specs.declared.caller.SawAnswerRow.{SawAnswerRow}
use Rattle.journal_rows.specs.declared.caller.SentRow.{SentRow}
use Rattle.journal_rows.specs.declared.row.Row.{Row}
use Rattle.journal_rows.specs.declared.row.Row.TheVariants.{Sent, SawAck, SawAnswer, Confirmed}
use Rattle.service_events.specs.Fits.{EachAfter, SendsOn}
use Rattle.service_events.proofs.CallRowLemmas.{go_on, all_follow}
use Rattle.world_agreement.proofs.Histories.{word_from, once_come, Sets, last_from}

-- ---- versions that were sent

-- a version that was sent is at most the last, and is the last where it has its number
pub record IsSentBefore (s last : SentRow) : Type 0 where
  pub dest : s.dest ≡ last.dest
  pub version : s.version ≤ last.version
  pub desired : s.version ≡ last.version → s.desired ≡ last.desired

sent_later : (s next : SentRow) (first : Type 0) (last : Option SentRow)
    → MatchOption last first (λ l. (next.dest ≡ l.dest) × (next.version ≡ l.version + 1) × IsSome l.desired) → IsSomeAnd last (IsSentBefore s) → IsSentBefore s next
sent_later s next first None f q = absurd q
sent_later s next first (Some l) f q =
    let v = q.version in
    let more = f.1 in
    record { dest = q.dest ∙ sym f.0; version = omega (arith, v, more); desired = λ e. absurd (omega (arith, v, more, e)) }

sent_stays : (s : SentRow) (before : List Row) (row : Row) → SendsOn before row → IsSomeAnd (last_sent s.number before) (IsSentBefore s)
    → IsSomeAnd (sent_step s.number (last_sent s.number before) row) (IsSentBefore s)
sent_stays s before (Sent next) f q =
    cond_both (nat_eq next.number s.number) (Some next) (last_sent s.number before) (λ o. IsSomeAnd o (IsSentBefore s))
    (λ e. (let P : ℕ → Type 0 = λ k.
    MatchOption (last_sent k before) ((next.number ≡ named before + 1) × (next.version ≡ 1) × IsSome next.desired)
    (λ l. (next.dest ≡ l.dest) × (next.version ≡ l.version + 1) × IsSome l.desired) in
    sent_later s next _ (last_sent s.number before) (subst P (eqb-true next.number s.number e) f) q))
    (λ _. q)
sent_stays s before row f q = q

pub sent_before : (s : SentRow) (journal : List Row) → EachAfter SendsOn [] journal → Contains journal (Sent s) → IsSomeAnd (last_sent s.number journal) (IsSentBefore s)
sent_before s journal h c =
    once_come SendsOn (sent_step s.number) None (Sent s) (λ o. IsSomeAnd o (IsSentBefore s))
    (λ before f. rw (cond-true (nat_eq s.number s.number) (Some s) (last_sent s.number before) (eq-eqb s.number s.number refl))
    (record { dest = refl; version = omega arith; desired = λ _. refl }))
    (sent_stays s) journal h c

-- a version is never 0
abbrev IsPositive : Option SentRow → Type 0
IsPositive last = IfSome last (λ s. 0 < s.version)

positive_next : (last : Option SentRow) (A B : Type 0) (D E : SentRow → Type 0) (v : ℕ) → MatchOption last (A × (v ≡ 1) × B) (λ s. D s × (v ≡ s.version + 1) × E s) → 0 < v
positive_next None A B D E v f = (let one = f.1 in omega (arith, one))
positive_next (Some s) A B D E v f = (let more = f.1 in omega (arith, more))

positive_stays : (n : ℕ) (before : List Row) (row : Row) → SendsOn before row → IsPositive (last_sent n before) → IsPositive (sent_step n (last_sent n before) row)
positive_stays n before (Sent s) f q =
    cond_both (nat_eq s.number n) (Some s) (last_sent n before) IsPositive
    (λ _. positive_next (last_sent s.number before) _ _ (λ l. s.dest ≡ l.dest) (λ l. IsSome l.desired) s.version f) (λ _. q)
positive_stays n before row f q = q

pub sent_positive : (n : ℕ) (journal : List Row) → EachAfter SendsOn [] journal → IfSome (last_sent n journal) (λ s. 0 < s.version)
sent_positive n journal h = go_on SendsOn (λ j. IsPositive (last_sent n j))
    (λ before row f q. rw fold_push (positive_stays n before row f q)) journal [] h tt

-- ---- what was seen to be acknowledged

abbrev pub AckedFrom : ℕ → List Row → ℕ → Type 0
AckedFrom n journal k = (k ≡ 0) ⊎ ((how : AckHow) × Contains journal (SawAck (record { number = n; version = k; how = how })))

acked_stays : (n k : ℕ) (before : List Row) (row : Row) → AckedFrom n before k → AckedFrom n (before ++ row ∷ []) k
acked_stays n k before row (inl none) = inl none
acked_stays n k before row (inr some) = inr (some.0, Contains-append_left before (row ∷ []) _ some.1)

-- the greater number is one of two
max_cases : (a b : ℕ) (P : ℕ → Type 0) → P a → P b → P (max a b)
max_cases a b P p q = elim (cases_lt a b) [
  | inl l ↦ (let within : a ≤ b = omega (arith, l) in subst P (sym (max-eq_right within)) q)
  | inr l ↦ subst P (sym (max-eq_left l)) p
]

acked_more : (n : ℕ) (before : List Row) (row : Row) (k : ℕ) → AckedFrom n before k → AckedFrom n (before ++ row ∷ []) (ack_step n k row)
acked_more n before (SawAck a) k q =
    cond_both (nat_eq a.number n) (max k a.version) k (AckedFrom n (before ++ SawAck a ∷ []))
    (λ e. max_cases k a.version (AckedFrom n (before ++ SawAck a ∷ [])) (acked_stays n k before (SawAck a) q)
    (inr (
      a.how,
      (let P : ℕ → Type 0 = λ x. Contains (before ++ SawAck a ∷ []) (SawAck (record { number = x; version = a.version; how = a.how })) in
          subst P (eqb-true a.number n e) (Contains-push before (SawAck a))),
    )))
    (λ _. acked_stays n k before (SawAck a) q)
acked_more n before row k q = acked_stays n k before row q

pub acked_from : (n : ℕ) (journal : List Row) → AckedFrom n journal (seen_acked n journal)
acked_from n journal = word_from (ack_step n) 0 (AckedFrom n) (inl refl) (acked_more n) journal

-- ---- the last answer that was seen

seen_sets : (n : ℕ) (last : Option SawAnswerRow) (row : Row) → Sets SawAnswer (λ a. a.number ≡ n) last row (seen_step n last row)
seen_sets n last (SawAnswer a) = elim (cases_Bool (nat_eq a.number n)) [
  | inl is ↦ inr (a, refl, cond-true (nat_eq a.number n) (Some a) last is, eqb-true a.number n is)
  | inr other ↦ inl (cond-false (nat_eq a.number n) (Some a) last other)
]
seen_sets n last row = inl refl

-- it is of this number, and was seen
pub seen_from : (n : ℕ) (journal : List Row) → IfSome (last_seen n journal) (λ a. (a.number ≡ n) × Contains journal (SawAnswer a))
seen_from n journal = last_from SawAnswer (λ a. a.number ≡ n) (seen_step n) (seen_sets n) journal

-- ---- what was claimed and confirmed

claim_rises_by : (most k : ℕ) (how : AckHow) → k ≤ most → k ≤ with_ack most how
claim_rises_by most k (WithAnswer v) q = omega (arith, q)
claim_rises_by most k ToPost q = q

-- a claim never falls
claim_rises : (n most : ℕ) (row : Row) (k : ℕ) → k ≤ most → k ≤ claim_step n most row
claim_rises n most (SawAck a) k q = cond_both (nat_eq a.number n) (with_ack most a.how) most (λ x. k ≤ x) (λ _. claim_rises_by most k a.how q) (λ _. q)
claim_rises n most row k q = q

-- nor does what was confirmed
confirm_rises : (n most : ℕ) (row : Row) (k : ℕ) → k ≤ most → k ≤ confirm_step n most row
confirm_rises n most (Confirmed c) k q = cond_both (nat_eq c.number n) (max most c.answer_version) most (λ x. k ≤ x) (λ _. omega (arith, q)) (λ _. q)
confirm_rises n most row k q = q

pub claimed_live : (n v k : ℕ) (journal : List Row) → Contains journal (SawAck (record { number = n; version = v; how = WithAnswer k })) → k ≤ claimed n journal
claimed_live n v k journal c =
    once_come (λ _ _. Unit {0}) (claim_step n) 0 (SawAck (record { number = n; version = v; how = WithAnswer k })) (λ x. k ≤ x)
    (λ before _. rw (cond-true (nat_eq n n) (max (claimed n before) k) (claimed n before) (eq-eqb n n refl)) (omega arith))
    (λ before row _ q. claim_rises n _ row k q) journal (all_follow journal []) c

pub confirmed_within : (n k : ℕ) (journal : List Row) → Contains journal (Confirmed (record { number = n; answer_version = k })) → k ≤ confirmed_version n journal
confirmed_within n k journal c =
    once_come (λ _ _. Unit {0}) (confirm_step n) 0 (Confirmed (record { number = n; answer_version = k })) (λ x. k ≤ x)
    (λ before _. rw (cond-true (nat_eq n n) (max (confirmed_version n before) k) (confirmed_version n before) (eq-eqb n n refl)) (omega arith))
    (λ before row _ q. confirm_rises n _ row k q) journal (all_follow journal []) c
