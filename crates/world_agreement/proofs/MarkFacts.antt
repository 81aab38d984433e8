-- What the last mark of a reply tells.
use Rattle.std.proofs.Common.{◌≡◌, ℕ, ◌<◌, ◌≤◌, Bool, true, false, ◌&&◌, cond, List, [], ◌∷◌, ◌++◌, Option, Some, None, IsSomeAnd, Contains, max, nat_eq, subst, sym, refl, arith, ◌∙◌, eqb-true}
use Rattle.std.proofs.lemmas.Bool.{cond_both}
use Rattle.std.proofs.lemmas.List.Elements.{Contains-push, Contains-append_left}
use Rattle.std.proofs.lemmas.List.Sums.{fold_push}
use Rattle.lang_base.specs.Texts.{same_text}
use Rattle.lang_core.specs.declared.ids.Origin.{Origin}
use Rattle.lang_core.specs.declared.ids.Origin.TheVariants.{Call}
use Rattle.journal_rows.specs.Words.{taken_version, acked_step, acknowledged, taken_step, asked_step, asked, answered_step, last_answered, given_version, mark_step, last_mark, last_step, last_row}
use Rattle.journal_rows.specs.declared.callee.AnsweredRow.{AnsweredRow}
use Rattle.journal_rows.specs.declared.callee.AskedRow.{AskedRow}
use Rattle.journal_rows.specs.declared.row.Row.{Row}
use Rattle.journal_rows.specs.declared.row.Row.TheVariants.{Asked, Took, Acked, Answered, WasConfirmed}
use Rattle.journal_rows.specs.declared.words.Mark.{Mark}
use Rattle.journal_rows.specs.declared.words.Mark.TheVariants.{Unsettled, AnsweredLive, ConfirmedAt}
use Rattle.service_events.specs.Fits.{EachAfter, TakesOn, AnswersOn, IsFirst, IsTakenLive}
use Rattle.service_events.proofs.CallRowLemmas.{go_on}
use Rattle.world_agreement.proofs.Histories.{word_from}
use Rattle.world_agreement.proofs.TakenFacts.{at_call, acknowledged_stays}
use Rattle.world_agreement.proofs.AnswerFacts.{asked_keeps}

-- ---- a confirmation

-- where the last mark is a confirmation, it came
abbrev pub ConfirmedFrom : List ℕ → ℕ → List Row → Mark → Type 0
ConfirmedFrom c n journal (ConfirmedAt v) = Contains journal (WasConfirmed (record { caller = c; number = n; answer_version = v }))
ConfirmedFrom c n journal AnsweredLive = Unit {0}
ConfirmedFrom c n journal Unsettled = Unit {0}

from_stays : (c : List ℕ) (n : ℕ) (before : List Row) (row : Row) (mark : Mark) → ConfirmedFrom c n before mark → ConfirmedFrom c n (before ++ row ∷ []) mark
from_stays c n before row (ConfirmedAt v) q = Contains-append_left before (row ∷ []) _ q
from_stays c n before row AnsweredLive q = tt
from_stays c n before row Unsettled q = tt

from_more : (id : ℕ) (c : List ℕ) (n : ℕ) (before : List Row) (row : Row) (mark : Mark) → ConfirmedFrom c n before mark
    → ConfirmedFrom c n (before ++ row ∷ []) (mark_step id c n mark row)
from_more id c n before (Answered a) mark q =
    cond_both (nat_eq a.id id) (cond a.live AnsweredLive Unsettled) mark (ConfirmedFrom c n (before ++ Answered a ∷ []))
    (λ _. cond_both a.live AnsweredLive Unsettled (ConfirmedFrom c n (before ++ Answered a ∷ [])) (λ _. tt) (λ _. tt))
    (λ _. from_stays c n before (Answered a) mark q)
from_more id c n before (Acked a) mark q =
    cond_both (same_text a.caller c && nat_eq a.number n) Unsettled mark (ConfirmedFrom c n (before ++ Acked a ∷ [])) (λ _. tt)
    (λ _. from_stays c n before (Acked a) mark q)
from_more id c n before (WasConfirmed w) mark q =
    cond_both (same_text w.caller c && nat_eq w.number n) (ConfirmedAt w.answer_version) mark (ConfirmedFrom c n (before ++ WasConfirmed w ∷ []))
    (λ e. at_call (λ d m. Contains (before ++ WasConfirmed w ∷ []) (WasConfirmed (record { caller = d; number = m; answer_version = w.answer_version }))) w.caller c
    w.number n e (Contains-push before (WasConfirmed w)))
    (λ _. from_stays c n before (WasConfirmed w) mark q)
from_more id c n before row mark q = from_stays c n before row mark q

pub confirmed_from : (id : ℕ) (c : List ℕ) (n : ℕ) (journal : List Row) → ConfirmedFrom c n journal (last_mark id c n journal)
confirmed_from id c n journal = word_from (mark_step id c n) Unsettled (ConfirmedFrom c n) tt (from_more id c n) journal

-- ---- a live answer

-- nothing was acknowledged to the caller, and the entry's answer is the first
pub record IsFirstAnswer (greatest last : ℕ) : Type 0 where
  pub acked : greatest ≡ 0
  pub given : last ≡ 1

-- what a live mark tells of an entry of this call, where this was acknowledged to the caller and that is the entry's last answer
abbrev Tells : List ℕ → ℕ → ℕ → Option AnsweredRow → AskedRow → Type 0
Tells c n acked last made = made.origin ≡ Call c n → IsFirstAnswer acked (given_version last)

pub record Marks (id : ℕ) (c : List ℕ) (n : ℕ) (j : List Row) : Type 0 where
  pub within : acknowledged c n j ≤ taken_version c n j
  pub took : IsTakenLive (Call c n) (last_row j) → acknowledged c n j ≡ 0
  pub marked : last_mark id c n j ≡ AnsweredLive → IsSomeAnd (asked id j) (Tells c n (acknowledged c n j) (last_answered id j))

some_weaker : {X : Type 0} (P Q : X → Type 0) → ((x : X) → P x → Q x) → (o : Option X) → IsSomeAnd o P → IsSomeAnd o Q
some_weaker P Q w None h = h
some_weaker P Q w (Some x) h = w x h

marked_same : (id : ℕ) (c : List ℕ) (n : ℕ) (a : AnsweredRow) (before : List Row) (live : Bool) → a.live ≡ live → nat_eq a.id id ≡ true → AnswersOn before (Answered a)
    → Marks id c n before → cond live AnsweredLive Unsettled ≡ AnsweredLive → IsSomeAnd (asked id before) (Tells c n (acknowledged c n before) (Some a))
marked_same id c n a before true live is f k m =
    let first = f.2 live in
    let P : ℕ → Type 0 = λ i. IsSomeAnd (asked i before) (λ made. made.origin ≡ a.origin) in
    some_weaker (λ made. made.origin ≡ a.origin) (Tells c n (acknowledged c n before) (Some a))
    (λ made of from. (let T : Origin → Type 0 = λ o. IsTakenLive o (last_row before) in
    record { acked = k.took (subst T (sym of ∙ from) first.1); given = first.0 }))
    (asked id before) (subst P (eqb-true a.id id is) f.0)
marked_same id c n a before false live is f k m = cc

marked_answered : (id : ℕ) (c : List ℕ) (n : ℕ) (a : AnsweredRow) (before : List Row) (b : Bool) → nat_eq a.id id ≡ b → AnswersOn before (Answered a)
    → Marks id c n before → cond b (cond a.live AnsweredLive Unsettled) (last_mark id c n before) ≡ AnsweredLive
    → IsSomeAnd (asked id before) (Tells c n (acknowledged c n before) (cond b (Some a) (last_answered id before)))
marked_answered id c n a before true is f k m = marked_same id c n a before a.live refl is f k m
marked_answered id c n a before false is f k m = k.marked m

marked_acked : (id : ℕ) (c : List ℕ) (n v : ℕ) (before : List Row) (b : Bool) → Marks id c n before → cond b Unsettled (last_mark id c n before) ≡ AnsweredLive
    → IsSomeAnd (asked id before) (Tells c n (cond b (max (acknowledged c n before) v) (acknowledged c n before)) (last_answered id before))
marked_acked id c n v before true k m = cc
marked_acked id c n v before false k m = k.marked m

marked_confirmed : (id : ℕ) (c : List ℕ) (n v : ℕ) (before : List Row) (b : Bool) → Marks id c n before
    → cond b (ConfirmedAt v) (last_mark id c n before) ≡ AnsweredLive
    → IsSomeAnd (asked id before) (Tells c n (acknowledged c n before) (last_answered id before))
marked_confirmed id c n v before true k m = cc
marked_confirmed id c n v before false k m = k.marked m

marked_stays : (id : ℕ) (c : List ℕ) (n : ℕ) (before : List Row) (row : Row) → AnswersOn before row → Marks id c n before
    → mark_step id c n (last_mark id c n before) row ≡ AnsweredLive
    → IsSomeAnd (asked_step id (asked id before) row) (Tells c n (acked_step c n (acknowledged c n before) row) (answered_step id (last_answered id before) row))
marked_stays id c n before (Answered a) f k m = marked_answered id c n a before (nat_eq a.id id) refl f k m
marked_stays id c n before (Acked a) f k m = marked_acked id c n a.version before (same_text a.caller c && nat_eq a.number n) k m
marked_stays id c n before (WasConfirmed w) f k m = marked_confirmed id c n w.answer_version before (same_text w.caller c && nat_eq w.number n) k m
marked_stays id c n before (Asked a) f k m =
    asked_keeps id (Tells c n (acknowledged c n before) (last_answered id before)) (asked id before) (Asked a) (k.marked m)
marked_stays id c n before row f k m = k.marked m

-- a live version is the first of its call
took_stays : (id : ℕ) (c : List ℕ) (n : ℕ) (before : List Row) (row : Row) → TakesOn before row → Marks id c n before → IsTakenLive (Call c n) (Some row)
    → acked_step c n (acknowledged c n before) row ≡ 0
took_stays id c n before (Took t) f k h =
    let first = subst (λ how. IsFirst how t.version t.desired) h.2 f.1 in
    let P : List ℕ → ℕ → Type 0 = λ d m. taken_version d m before < t.version in
    let Q : List ℕ → Type 0 = λ d. P d n in
    let below : taken_version c n before < t.version = subst Q h.0 (subst (P t.caller) h.1 f.0) in
    let one : t.version ≡ 1 = first.0 in
    let within = k.within in
    omega (arith, below, one, within)
took_stays id c n before row f k h = absurd h

both : (P Q : List Row → Row → Type 0) (rows before : List Row) → EachAfter P before rows → EachAfter Q before rows → EachAfter (λ b r. P b r × Q b r) before rows
both P Q [] before p q = tt
both P Q (x ∷ xs) before p q = ((p.0, q.0), both P Q xs (before ++ x ∷ []) p.1 q.1)

marks_stay : (id : ℕ) (c : List ℕ) (n : ℕ) (before : List Row) (row : Row) → TakesOn before row × AnswersOn before row → Marks id c n before → Marks id c n (before ++ row ∷ [])
marks_stay id c n before row f k = record {
  within = rw (fold_push (acked_step c n) 0 before row, fold_push (taken_step c n) None before row) (acknowledged_stays c n before row f.0 k.within);
  took = λ h. rw (fold_push (acked_step c n) 0 before row) (took_stays id c n before row f.0 k (rw (fold_push last_step None before row) at h));
  marked = λ m. rw (fold_push (acked_step c n) 0 before row, fold_push (answered_step id) None before row, fold_push (asked_step id) None before row)
      (marked_stays id c n before row f.1 k (rw (fold_push (mark_step id c n) Unsettled before row) at m));
}

pub marks : (id : ℕ) (c : List ℕ) (n : ℕ) (journal : List Row) → EachAfter TakesOn [] journal → EachAfter AnswersOn [] journal → Marks id c n journal
marks id c n journal p q =
    go_on (λ b r. TakesOn b r × AnswersOn b r) (Marks id c n) (marks_stay id c n) journal [] (both TakesOn AnswersOn journal [] p q)
    (record { within = omega arith; took = λ h. absurd h; marked = λ m. cc })
