-- A service has one preview of some trials alone.
use Rattle.std.proofs.Common.{◌≡◌, ℕ, zero, suc, ◌+◌, ◌<◌, ◌≤◌, ◌⊎◌, List, [], ◌∷◌, Option, Some, None, Result, Ok, Err, MatchOption, length, map, refl, sym, ap, ◌∙◌, subst, inl, inr, arith}
use Rattle.std.proofs.lemmas.Bool.{cases_lt}
use Rattle.local_repair.specs.declared.stepped.Stepped.{Stepped}
use Rattle.local_repair.specs.declared.stepped.Stepped.TheVariants.{Idle, Ran}
use Rattle.journal_rows.specs.declared.row.Row.{Row}
use Rattle.service_events.specs.State.{Kept, unfolded}
use Rattle.service_events.specs.Steps.{step_event}
use Rattle.service_events.specs.declared.answers.Ordered.{Ordered}
use Rattle.service_events.specs.declared.refusals.OrderRefused.{OrderRefused}
use Rattle.preview_core.specs.Differences.{difference}
use Rattle.preview_core.specs.Posts.{new_posts}
use Rattle.preview_core.specs.Previews.{IsPreviewAtMost, IsShown, Shows, ShowsTrials, not_ready, rows_of}
use Rattle.preview_core.specs.Repairs.{HasRun, HaveRun, HaveRunAtMost, ran_one}
use Rattle.preview_core.specs.Trials.{AreTried, AreUsedUp, GoesOn, IsNextFree, Tried, trial_event}
use Rattle.preview_core.specs.declared.refused.PreviewRefused.{PreviewRefused}
use Rattle.preview_core.specs.declared.told.Preview.{Preview}
use Rattle.preview_core.specs.declared.told.RanOne.{RanOne}
use Rattle.preview_core.specs.declared.trial.Trial.{Trial}

-- ---- tokens

next_alone : (journal : List Row) (last m n : ℕ) → IsNextFree journal last m → IsNextFree journal last n → m ≡ n
next_alone journal last m n a b = by (cases_lt m n) (cases_lt n m)
  where
    by : (m < n) ⊎ (n ≤ m) → (n < m) ⊎ (m ≤ n) → m ≡ n
    by (inl less) other = (let taken = b.first m a.behind less in let free = a.free in cc)
    by (inr most) (inl less) = (let taken = a.first n b.behind less in let free = b.free in cc)
    by (inr most) (inr least) = omega (arith, most, least)

never_left : (journal : List Row) (last n : ℕ) → IsNextFree journal last n → AreUsedUp journal last → ⊥
never_left journal last n a none = let taken = none n a.behind a.counted in let free = a.free in cc

-- ---- trials

goes_alone : (a : Result Ordered OrderRefused) (Next : Tried → Type 0) (at : ℕ) (x y : Tried) → ((p q : Tried) → Next p → Next q → p ≡ q)
    → GoesOn a (Next x) at x → GoesOn a (Next y) at y → x ≡ y
goes_alone (Ok o) Next at x y alone p q = alone x y p q
goes_alone (Err why) Next at x y alone p q = p ∙ sym q

tried_alone : (journal : List Row) (who : List ℕ) (at last : ℕ) (s : Kept) (ts : List Trial) (x y : Tried) → AreTried journal who at last s ts x
    → AreTried journal who at last s ts y → x ≡ y
tried_alone journal who at last s [] x y p q = p ∙ sym q
tried_alone journal who at last s (t ∷ ts) x y (inl p) (inl q) =
    let same : q.0 ≡ p.0 = next_alone journal last q.0 p.0 q.1 p.1 in
    let G : ℕ → Type 0 = λ n. GoesOn (trial_event who s t n).answer (AreTried journal who (at + 1) n (trial_event who s t n).service ts y) at y in
    goes_alone (trial_event who s t p.0).answer (AreTried journal who (at + 1) p.0 (trial_event who s t p.0).service ts) at x y
    (λ u v. tried_alone journal who (at + 1) p.0 (trial_event who s t p.0).service ts u v) p.2 (subst G same q.2)
tried_alone journal who at last s (t ∷ ts) x y (inl p) (inr q) = absurd (never_left journal last p.0 p.1 q.0)
tried_alone journal who at last s (t ∷ ts) x y (inr p) (inl q) = absurd (never_left journal last q.0 q.1 p.0)
tried_alone journal who at last s (t ∷ ts) x y (inr p) (inr q) = p.1 ∙ sym q.1

-- ---- steps until one is idle

never_both : (a : Stepped) (id : ℕ) → a ≡ Idle → HasRun id a → ⊥
never_both Idle id e ran = ran
never_both (Ran ran answered) id e h = cc

run_alone : (a : Stepped) (id ran : ℕ) → HasRun id a → HasRun ran a → id ≡ ran
run_alone Idle id ran h g = absurd h
run_alone (Ran n answered) id ran h g = sym h ∙ g

-- it ends where no step follows, or where there are so many
abbrev Ends : ℕ → List ℕ → Kept → Type 0
Ends n ids now = ((step_event now).answer ≡ Idle) ⊎ (length ids ≡ n)

more_after : (s now : Kept) (n id : ℕ) (others : List ℕ) → now ≡ s → Ends n [] now → HasRun id (step_event s).answer → length (id ∷ others) ≤ n → ⊥
more_after s now n id others same (inl idle) ran most = never_both (step_event s).answer id (subst (λ k. (step_event k).answer ≡ Idle) same idle) ran
more_after s now n id others same (inr none) ran most = omega (arith, none, most)

fewer_ends : (n id : ℕ) (ids : List ℕ) (now : Kept) → Ends (suc n) (id ∷ ids) now → Ends n ids now
fewer_ends n id ids now (inl idle) = inl idle
fewer_ends n id ids now (inr many) = inr (omega (arith, many))

ids_alone : (n : ℕ) (s now end : Kept) (ids others : List ℕ) → HaveRun s ids now → length ids ≤ n → Ends n ids now → HaveRun s others end → length others ≤ n → Ends n others end
    → (ids ≡ others) × (now ≡ end)
ids_alone n s now end [] [] h few ends g fewer rests = (refl, h ∙ sym g)
ids_alone n s now end [] (id ∷ others) h few ends g fewer rests = absurd (more_after s now n id others h ends g.0 fewer)
ids_alone n s now end (id ∷ ids) [] h few ends g fewer rests = absurd (more_after s end n id ids g rests h.0 few)
ids_alone zero s now end (id ∷ ids) (ran ∷ others) h few ends g fewer rests = absurd (omega (arith, few))
ids_alone (suc n) s now end (id ∷ ids) (ran ∷ others) h few ends g fewer rests =
    let rest = ids_alone n (step_event s).service now end ids others h.1 (omega (arith, few)) (fewer_ends n id ids now ends) g.1 (omega (arith, fewer)) (fewer_ends n ran others end rests) in
    let first = run_alone (step_event s).answer id ran h.0 g.0 in
    (ap (λ n. n ∷ ids) first ∙ ap (λ ns. ran ∷ ns) rest.0, rest.1)

somes_alone : (xs ys : List RanOne) → map Some xs ≡ map Some ys → xs ≡ ys
somes_alone [] [] e = refl
somes_alone [] (y ∷ ys) e = cc
somes_alone (x ∷ xs) [] e = cc
somes_alone (x ∷ xs) (y ∷ ys) e =
    let first : x ≡ y = cc in
    let behind : map Some xs ≡ map Some ys = cc in
    ap (λ z. z ∷ xs) first ∙ ap (λ zs. y ∷ zs) (somes_alone xs ys behind)

-- ---- what is shown

shown_alone : (was tried : Kept) (p q : Preview) → IsShown HaveRunAtMost was tried p → IsShown HaveRunAtMost was tried q → p ≡ q
shown_alone was tried p q a b =
    let one = ids_alone (length (unfolded tried)) tried a.now b.now a.ids b.ids a.repaired.ran a.repaired.most a.repaired.ends b.repaired.ran b.repaired.most b.repaired.ends in
    let ran : p.ran ≡ q.ran = somes_alone p.ran q.ran (a.ran ∙ ap (λ k. map (ran_one k) a.ids) one.1 ∙ ap (map (ran_one b.now)) one.0 ∙ sym b.ran) in
    let rows : p.rows ≡ q.rows = a.rows ∙ ap (λ k. difference (rows_of was) (rows_of k)) one.1 ∙ sym b.rows in
    let posts : p.posts ≡ q.posts = a.posts ∙ ap (new_posts was) one.1 ∙ sym b.posts in
    λ i. record { ran = ran i; rows = rows i; posts = posts i }

shows_alone : (was : Kept) (out : Tried) (r q : Result Preview PreviewRefused) → Shows HaveRunAtMost was out r → Shows HaveRunAtMost was out q → r ≡ q
shows_alone was (Ok tried) r q a b = a.1 ∙ ap (λ (x : Preview). Ok x) (shown_alone was tried a.0 b.0 a.2 b.2) ∙ sym b.1
shows_alone was (Err f) r q a b = a ∙ sym b

trials_alone : (s : Kept) (trials : List Trial) (who : List ℕ) (r q : Result Preview PreviewRefused) → ShowsTrials HaveRunAtMost s trials who r → ShowsTrials HaveRunAtMost s trials who q → r ≡ q
trials_alone s trials who r q a b =
    let same = tried_alone s.journal who 0 0 s trials b.0 a.0 b.1 a.1 in
    shows_alone s a.0 r q a.2 (subst (λ out. Shows HaveRunAtMost s out q) same b.2)

-- whatever is a preview of them is this one
pub preview_alone : (s : Kept) (trials : List Trial) (who : List ℕ) (r q : Result Preview PreviewRefused) → IsPreviewAtMost s trials who r → IsPreviewAtMost s trials who q → r ≡ q
preview_alone s trials who r q a b = by (not_ready s) a b
  where
    by : (o : Option PreviewRefused) → MatchOption o (ShowsTrials HaveRunAtMost s trials who r) (λ (why : PreviewRefused). r ≡ Err why)
        → MatchOption o (ShowsTrials HaveRunAtMost s trials who q) (λ (why : PreviewRefused). q ≡ Err why) → r ≡ q
    by None a b = trials_alone s trials who r q a b
    by (Some why) a b = a ∙ sym b
