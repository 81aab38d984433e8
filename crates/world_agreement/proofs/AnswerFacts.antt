-- What follows of the rows on entries' answers.
use Rattle.std.proofs.Common.{◌≡◌, ℕ, ◌+◌, ◌<◌, ◌≤◌, List, [], Option, Some, None, IfSome, IsSomeAnd, Contains, nat_eq, inl, inr, subst, refl, arith, eqb-true, eq-eqb}
use Rattle.std.proofs.lemmas.Bool.{cases_Bool, cond_both, cond-true, cond-false}
use Rattle.journal_rows.specs.Words.{asked_step, asked, answered_step, last_answered, given_version}
use Rattle.journal_rows.specs.declared.callee.AnsweredRow.{AnsweredRow}
use Rattle.journal_rows.specs.declared.callee.AskedRow.{AskedRow}
use Rattle.journal_rows.specs.declared.row.Row.{Row}
use Rattle.journal_rows.specs.declared.row.Row.TheVariants.{Asked, Answered}
use Rattle.service_events.specs.Fits.{EachAfter, AnswersOn}
use Rattle.world_agreement.proofs.Histories.{once_come, Sets, last_from}

-- ---- the answers of an entry

-- an answer that was given is at most the last, and is the last where it has its answer version
pub record IsGivenBefore (a last : AnsweredRow) : Type 0 where
  pub answer_version : a.answer_version ≤ last.answer_version
  pub same : a.answer_version ≡ last.answer_version → (a.version ≡ last.version) × (a.response ≡ last.response)

given_later : (a next : AnsweredRow) (last : Option AnsweredRow) → next.answer_version ≡ given_version last + 1 → IsSomeAnd last (IsGivenBefore a) → IsGivenBefore a next
given_later a next None f q = absurd q
given_later a next (Some l) f q =
    let v = q.answer_version in record { answer_version = omega (arith, v, f); same = λ e. absurd (omega (arith, v, f, e)) }

given_stays : (a : AnsweredRow) (before : List Row) (row : Row) → AnswersOn before row → IsSomeAnd (last_answered a.id before) (IsGivenBefore a)
    → IsSomeAnd (answered_step a.id (last_answered a.id before) row) (IsGivenBefore a)
given_stays a before (Answered next) f q =
    cond_both (nat_eq next.id a.id) (Some next) (last_answered a.id before) (λ o. IsSomeAnd o (IsGivenBefore a))
    (λ e. (let P : ℕ → Type 0 = λ i. next.answer_version ≡ given_version (last_answered i before) + 1 in
    given_later a next (last_answered a.id before) (subst P (eqb-true next.id a.id e) f.1) q))
    (λ _. q)
given_stays a before row f q = q

pub given_before : (a : AnsweredRow) (journal : List Row) → EachAfter AnswersOn [] journal → Contains journal (Answered a)
    → IsSomeAnd (last_answered a.id journal) (IsGivenBefore a)
given_before a journal h has =
    once_come AnswersOn (answered_step a.id) None (Answered a) (λ o. IsSomeAnd o (IsGivenBefore a))
    (λ before f. rw (cond-true (nat_eq a.id a.id) (Some a) (last_answered a.id before) (eq-eqb a.id a.id refl))
    (record { answer_version = omega arith; same = λ _. (refl, refl) }))
    (given_stays a) journal h has

-- an answer version is never 0
pub given_positive : (a : AnsweredRow) (journal : List Row) → EachAfter AnswersOn [] journal → Contains journal (Answered a) → 0 < a.answer_version
given_positive a journal h has =
    once_come AnswersOn (λ (u : Unit {0}) row. tt) tt (Answered a) (λ _. 0 < a.answer_version) (λ before f. (let more = f.1 in omega (arith, more)))
    (λ _ _ _ q. q) journal h has

-- ---- the last answer

given_sets : (id : ℕ) (last : Option AnsweredRow) (row : Row) → Sets Answered (λ a. a.id ≡ id) last row (answered_step id last row)
given_sets id last (Answered a) = elim (cases_Bool (nat_eq a.id id)) [
  | inl is ↦ inr (a, refl, cond-true (nat_eq a.id id) (Some a) last is, eqb-true a.id id is)
  | inr other ↦ inl (cond-false (nat_eq a.id id) (Some a) last other)
]
given_sets id last row = inl refl

-- it is of this entry, and was given
pub given_from : (id : ℕ) (journal : List Row) → IfSome (last_answered id journal) (λ a. (a.id ≡ id) × Contains journal (Answered a))
given_from id journal = last_from Answered (λ a. a.id ≡ id) (answered_step id) (given_sets id) journal

-- ---- how an entry was made

-- what holds of it stays
pub asked_keeps : (id : ℕ) (P : AskedRow → Type 0) (first : Option AskedRow) (row : Row) → IsSomeAnd first P → IsSomeAnd (asked_step id first row) P
asked_keeps id P None row q = absurd q
asked_keeps id P (Some x) (Asked a) q = cond_both (nat_eq a.id id) (Some x) (Some x) (λ o. IsSomeAnd o P) (λ _. q) (λ _. q)
asked_keeps id P (Some x) row q = q

-- an answer has its entry's origin
pub given_asked : (a : AnsweredRow) (journal : List Row) → EachAfter AnswersOn [] journal → Contains journal (Answered a)
    → IsSomeAnd (asked a.id journal) (λ made. made.origin ≡ a.origin)
given_asked a journal h has =
    once_come AnswersOn (asked_step a.id) None (Answered a) (λ first. IsSomeAnd first (λ made. made.origin ≡ a.origin))
    (λ before f. f.0) (λ before row _ q. asked_keeps a.id (λ made. made.origin ≡ a.origin) (asked a.id before) row q) journal h has
