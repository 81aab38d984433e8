-- What follows of the rows on versions of another service's call.
use Rattle.std.proofs.Common.{◌≡◌, ℕ, ◌<◌, ◌≤◌, true, List, [], Option, Some, None, IfSome, Contains, max, nat_eq, ◌&&◌, inl, inr, subst, ap, refl, arith, ◌∙◌, eqb-true, eq-eqb}
use Rattle.std.proofs.lemmas.Bool.{cases_Bool, cond_both, cond-true, cond-false, and_parts, and_from}
use Rattle.std.proofs.lemmas.List.Sums.{fold_push}
use Rattle.std.specs.Cmp.Lexicographic.{nat_list_eq_equiv}
use Rattle.lang_base.specs.Texts.{same_text}
use Rattle.lang_core.specs.declared.ids.Origin.TheVariants.{Call}
use Rattle.journal_rows.specs.Words.{is_version_of, taken_step, last_taken, version_in, taken_version, taken_version_of, acked_step, acknowledged}
use Rattle.journal_rows.specs.declared.callee.AnsweredRow.{AnsweredRow}
use Rattle.journal_rows.specs.declared.callee.TookRow.{TookRow}
use Rattle.journal_rows.specs.declared.row.Row.{Row}
use Rattle.journal_rows.specs.declared.row.Row.TheVariants.{Took, Acked, Answered}
use Rattle.service_events.specs.Fits.{EachAfter, TakesOn}
use Rattle.service_events.proofs.CallRowLemmas.{go_on, all_follow}
use Rattle.service_events.proofs.SearchLemmas.{text_is}
use Rattle.world_agreement.proofs.Histories.{once_come, Sets, last_from}

-- ---- of which call a row speaks

pub call_same : (c : List ℕ) (n : ℕ) → (same_text c c && nat_eq n n) ≡ true
call_same c n = and_from (same_text c c) (nat_eq n n) (nat_list_eq_equiv.refl c) (eq-eqb n n refl)

pub call_is : (c d : List ℕ) (n m : ℕ) → (same_text c d && nat_eq n m) ≡ true → (c ≡ d) × (n ≡ m)
call_is c d n m e = let parts = and_parts (same_text c d) (nat_eq n m) e in (text_is c d parts.0, eqb-true n m parts.1)

-- what holds of a call holds of an equal one
pub at_call : (P : List ℕ → ℕ → Type 0) (c d : List ℕ) (n m : ℕ) → (same_text c d && nat_eq n m) ≡ true → P c n → P d m
at_call P c d n m e p =
    let same = call_is c d n m e in
    let Q : List ℕ → Type 0 = λ x. P x m in
    subst Q same.0 (subst (P c) same.1 p)

-- ---- the last version that was taken

taken_sets : (c : List ℕ) (n : ℕ) (last : Option TookRow) (row : Row) → Sets Took (λ t. (t.caller ≡ c) × (t.number ≡ n)) last row (taken_step c n last row)
taken_sets c n last (Took t) = elim (cases_Bool (is_version_of c n t)) [
  | inl is ↦ inr (t, refl, cond-true (is_version_of c n t) (Some t) last is, call_is t.caller c t.number n is)
  | inr other ↦ inl (cond-false (is_version_of c n t) (Some t) last other)
]
taken_sets c n last row = inl refl

-- it is of this call, and was taken
pub taken_from : (c : List ℕ) (n : ℕ) (journal : List Row)
    → IfSome (last_taken c n journal) (λ t. ((t.caller ≡ c) × (t.number ≡ n)) × Contains journal (Took t))
taken_from c n journal = last_from Took (λ t. (t.caller ≡ c) × (t.number ≡ n)) (taken_step c n) (taken_sets c n) journal

-- ---- the version that was taken never falls

taken_rises : (c : List ℕ) (n k : ℕ) (before : List Row) (row : Row) → TakesOn before row → k ≤ taken_version c n before
    → k ≤ version_in (taken_step c n (last_taken c n before) row)
taken_rises c n k before (Took t) f q =
    cond_both (is_version_of c n t) (Some t) (last_taken c n before) (λ last. k ≤ version_in last)
    (λ e. (let higher = at_call (λ d m. taken_version d m before < t.version) t.caller c t.number n e f.0 in omega (arith, q, higher))) (λ _. q)
taken_rises c n k before row f q = q

-- the version of an answer was taken
pub answered_taken : (c : List ℕ) (n : ℕ) (a : AnsweredRow) (journal : List Row) → a.origin ≡ Call c n → EachAfter TakesOn [] journal → Contains journal (Answered a)
    → a.version ≤ taken_version c n journal
answered_taken c n a journal from h has =
    once_come TakesOn (taken_step c n) None (Answered a) (λ last. a.version ≤ version_in last)
    (λ before f. (let is : a.version ≡ taken_version c n before = f ∙ ap (λ o. taken_version_of o before) from in omega (arith, is)))
    (λ before row f q. taken_rises c n a.version before row f q) journal h has

-- ---- what was acknowledged

acknowledged_rises : (c : List ℕ) (n k v : ℕ) (row : Row) → v ≤ k → v ≤ acked_step c n k row
acknowledged_rises c n k v (Acked a) q =
    cond_both (same_text a.caller c && nat_eq a.number n) (max k a.version) k (λ x. v ≤ x) (λ _. omega (arith, q)) (λ _. q)
acknowledged_rises c n k v row q = q

pub acked_within : (c : List ℕ) (n v : ℕ) (journal : List Row) → Contains journal (Acked (record { caller = c; number = n; version = v }))
    → v ≤ acknowledged c n journal
acked_within c n v journal has =
    once_come (λ _ _. Unit {0}) (acked_step c n) 0 (Acked (record { caller = c; number = n; version = v })) (λ k. v ≤ k)
    (λ before _. rw (cond-true (same_text c c && nat_eq n n) (max (acknowledged c n before) v) (acknowledged c n before) (call_same c n)) (omega arith))
    (λ before row _ q. acknowledged_rises c n _ v row q) journal (all_follow journal []) has

-- what was acknowledged was taken
pub acknowledged_stays : (c : List ℕ) (n : ℕ) (before : List Row) (row : Row) → TakesOn before row → acknowledged c n before ≤ taken_version c n before
    → acked_step c n (acknowledged c n before) row ≤ version_in (taken_step c n (last_taken c n before) row)
acknowledged_stays c n before (Took t) f q = taken_rises c n (acknowledged c n before) before (Took t) f q
acknowledged_stays c n before (Acked a) f q =
    cond_both (same_text a.caller c && nat_eq a.number n) (max (acknowledged c n before) a.version) (acknowledged c n before) (λ x. x ≤ taken_version c n before)
    (λ e. (let here = at_call (λ d m. a.version ≤ taken_version d m before) a.caller c a.number n e f in omega (arith, q, here))) (λ _. q)
acknowledged_stays c n before row f q = q

pub acknowledged_taken : (c : List ℕ) (n : ℕ) (journal : List Row) → EachAfter TakesOn [] journal → acknowledged c n journal ≤ taken_version c n journal
acknowledged_taken c n journal h = go_on TakesOn (λ j. acknowledged c n j ≤ taken_version c n j)
    (λ before row f q. rw (fold_push (acked_step c n) 0 before row, fold_push (taken_step c n) None before row) (acknowledged_stays c n before row f q)) journal [] h
    (omega arith)
