-- Inductions along a journal.
use Rattle.std.proofs.Common.{◌≡◌, ◌⊎◌, List, [], ◌∷◌, ◌++◌, Option, Some, None, IfSome, Contains, fold, inl, inr, subst, sym, arith}
use Rattle.std.proofs.lemmas.List.Sums.{fold_push}
use Rattle.std.proofs.lemmas.List.Elements.{Contains-push, Contains-push_cases, Contains-append_left}
use Rattle.journal_rows.specs.declared.row.Row.{Row}
use Rattle.service_events.specs.Fits.{EachAfter}
use Rattle.service_events.proofs.CallRowLemmas.{go_on, all_follow}

-- what the value of a word is taken from
pub word_from : {S : Type 0} (step : S → Row → S) (start : S) (IsFrom : List Row → S → Type 0) → IsFrom [] start
    → ((before : List Row) (row : Row) (s : S) → IsFrom before s → IsFrom (before ++ row ∷ []) (step s row))
    → (journal : List Row) → IsFrom journal (fold step start journal)
word_from step start IsFrom none more journal =
    go_on (λ _ _. Unit {0}) (λ j. IsFrom j (fold step start j)) (λ before row _ h. rw fold_push (more before row (fold step start before) h)) journal []
    (all_follow journal []) none

-- what holds of a word once a row has come, and is kept by each later row, holds at the end
pub once_come : {S : Type 0} (Follows : List Row → Row → Type 0) (step : S → Row → S) (start : S) (row : Row) (G : S → Type 0)
    → ((before : List Row) → Follows before row → G (step (fold step start before) row))
    → ((before : List Row) (next : Row) → Follows before next → G (fold step start before) → G (step (fold step start before) next))
    → (journal : List Row) → EachAfter Follows [] journal → Contains journal row → G (fold step start journal)
once_come Follows step start row G arrives stays journal h =
    go_on Follows (λ j. Contains j row → G (fold step start j))
    (λ before next f q c. rw fold_push
    (elim (Contains-push_cases before next row c) [
      | inl old ↦ stays before next f (q old)
      | inr is ↦ (let Now : Row → Type 0 = λ x. G (step (fold step start before) x) in
          let FollowsIt : Row → Type 0 = Follows before in
          subst Now (sym is) (arrives before (subst FollowsIt is f)))
    ]))
    journal [] h (λ none. absurd (omega (arith, none.1)))

module _ {X : Type 0} (row_of : X → Row) (Q : X → Type 0) where
  -- a word is what one of its rows says
  abbrev IsFrom : List Row → Option X → Type 0
  IsFrom journal last = IfSome last (λ x. Q x × Contains journal (row_of x))

  -- a row leaves a word as it was, or is the row of what the word is then
  abbrev pub Sets : Option X → Row → Option X → Type 0
  Sets last row next = (next ≡ last) ⊎ ((x : X) × (row ≡ row_of x) × (next ≡ Some x) × Q x)

  stays : (before : List Row) (row : Row) (last : Option X) → IsFrom before last → IsFrom (before ++ row ∷ []) last
  stays before row None h = tt
  stays before row (Some x) h = (h.0, Contains-append_left before (row ∷ []) (row_of x) h.1)

  -- what it is at the end stands in the journal
  pub last_from : (step : Option X → Row → Option X) → ((last : Option X) (row : Row) → Sets last row (step last row)) → (journal : List Row)
      → IfSome (fold step None journal) (λ x. Q x × Contains journal (row_of x))
  last_from step sets journal = word_from step None IsFrom tt
      (λ before row last h. elim (sets last row) [
        | inl same ↦ subst (IsFrom (before ++ row ∷ [])) (sym same) (stays before row last h)
        | inr x ↦ subst (IsFrom (before ++ row ∷ [])) (sym x.2) (x.3, subst (Contains (before ++ row ∷ [])) x.1 (Contains-push before row))
      ])
      journal
