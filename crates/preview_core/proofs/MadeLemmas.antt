-- There is a preview of whatever trials, where at most as many steps are made as there are entries that aren't folded.
use Rattle.std.proofs.Common.{◌≡◌, ℕ, zero, suc, ◌+◌, ◌-◌, ◌<◌, ◌≤◌, ◌⊎◌, ◌^◌, List, [], ◌∷◌, Option, Some, None, IsSome, All, Result, Ok, Err, MatchOption, length, map, option_map, refl, sym, ap, ◌∙◌, subst, inl, inr, arith}
use Rattle.std.proofs.lemmas.Bool.{cases_Bool, cases_lt}
use Rattle.std.proofs.lemmas.List.Elements.{All-head, All-tail}
use Rattle.lang_core.specs.declared.request.Response.{Response}
use Rattle.local_repair.specs.declared.stepped.Stepped.{Stepped}
use Rattle.local_repair.specs.declared.stepped.Stepped.TheVariants.{Idle, Ran}
use Rattle.journal_rows.specs.declared.row.Row.{Row}
use Rattle.service_events.specs.State.{Kept, unfolded}
use Rattle.service_events.specs.Steps.{step_event}
use Rattle.service_events.specs.declared.answers.Ordered.{Ordered}
use Rattle.service_events.specs.declared.refusals.OrderRefused.{OrderRefused}
use Rattle.preview_core.specs.Differences.{difference}
use Rattle.preview_core.specs.Posts.{new_posts}
use Rattle.preview_core.specs.Previews.{IsPreviewAtMost, Shows, ShowsTrials, not_ready, rows_of}
use Rattle.preview_core.specs.Repairs.{AreResponses, HasRun, HaveRun, HaveRunAtMost, ran_one, response_of}
use Rattle.preview_core.specs.Trials.{AreTried, AreUsedUp, GoesOn, IsNextFree, Tried, is_free, trial_event}
use Rattle.preview_core.specs.declared.refused.PreviewRefused.{PreviewRefused}
use Rattle.preview_core.specs.declared.refused.PreviewRefused.TheVariants.{Order}
use Rattle.preview_core.specs.declared.told.Preview.{Preview}
use Rattle.preview_core.specs.declared.told.RanOne.{RanOne}
use Rattle.preview_core.specs.declared.trial.Trial.{Trial}
use Rattle.preview_core.proofs.StepLemmas.{run_responds}
use Rattle.preview_core.proofs.TrialLemmas.{AreTaken, next_free, none_taken, one_taken}

-- ---- tokens

-- a number is left, or none is
token_from : (journal : List Row) (last : ℕ) (left n : ℕ) → n + 1 + left ≡ 2 ^ 64 → AreTaken journal last n → ((m : ℕ) × IsNextFree journal last m) ⊎ AreUsedUp journal last
token_from journal last zero n sum taken = inr (λ m above counted. taken.taken m above (omega (arith, sum, counted)))
token_from journal last (suc left) n sum taken = elim (cases_Bool (is_free journal (n + 1))) [
  | inl free ↦ inl (n + 1, next_free journal last n taken (omega (arith, sum)) free)
  | inr used ↦ token_from journal last left (n + 1) (omega (arith, sum)) (one_taken journal last n taken used)
]

has_token : (journal : List Row) (last : ℕ) → ((m : ℕ) × IsNextFree journal last m) ⊎ AreUsedUp journal last
has_token journal last = by (cases_lt last (2 ^ 64))
  where
    by : (last < 2 ^ 64) ⊎ (2 ^ 64 ≤ last) → ((m : ℕ) × IsNextFree journal last m) ⊎ AreUsedUp journal last
    by (inr far) = inr (λ m above counted. absurd (omega (arith, far, above, counted)))
    by (inl near) = token_from journal last (2 ^ 64 - (last + 1)) last (omega (arith, near)) (none_taken journal last)

-- ---- trials

has_tried : (journal : List Row) (who : List ℕ) (at last : ℕ) (s : Kept) (ts : List Trial) → (out : Tried) × AreTried journal who at last s ts out
has_tried journal who at last s [] = (Ok s, refl)
has_tried journal who at last s (t ∷ ts) =
    by (has_token journal last) (λ n. has_tried journal who (at + 1) n (trial_event who s t n).service ts)
  where
    goes : (n : ℕ) (a : Result Ordered OrderRefused) → ((out : Tried) × AreTried journal who (at + 1) n (trial_event who s t n).service ts out)
        → (out : Tried) × GoesOn a (AreTried journal who (at + 1) n (trial_event who s t n).service ts out) at out
    goes n (Ok o) rest = rest
    goes n (Err why) rest = (Err (record { at = at; refused = why }), refl)

    by : ((m : ℕ) × IsNextFree journal last m) ⊎ AreUsedUp journal last → ((n : ℕ) → (out : Tried) × AreTried journal who (at + 1) n (trial_event who s t n).service ts out)
        → (out : Tried) × AreTried journal who at last s (t ∷ ts) out
    by (inl f) rest = (let g = goes f.0 (trial_event who s t f.0).answer (rest f.0) in (g.0, inl (f.0, f.1, g.1)))
    by (inr none) rest = (Err (record { at = at; refused = OrderRefused.NoMemory }), inr (none, refl))

-- ---- steps

-- steps that are made, at most so many
record Made (n : ℕ) (s : Kept) : Type 0 where
  pub ids : List ℕ
  pub now : Kept
  pub ran : HaveRun s ids now
  pub most : length ids ≤ n
  pub ends : ((step_event now).answer ≡ Idle) ⊎ (length ids ≡ n)

has_made : (n : ℕ) (s : Kept) → Made n s
has_made zero s = record { ids = []; now = s; ran = refl; most = omega arith; ends = inr refl }
has_made (suc n) s = by (step_event s).answer refl (has_made n (step_event s).service)
  where
    later : (rest : List ℕ) (now : Kept) → ((step_event now).answer ≡ Idle) ⊎ (length rest ≡ n) → ((step_event now).answer ≡ Idle) ⊎ (suc (length rest) ≡ suc n)
    later rest now (inl idle) = inl idle
    later rest now (inr many) = inr (ap suc many)

    by : (a : Stepped) → (step_event s).answer ≡ a → Made n (step_event s).service → Made (suc n) s
    by Idle is rest = record { ids = []; now = s; ran = refl; most = omega arith; ends = inl is }
    by (Ran id answered) is rest =
        let R : Stepped → Type 0 = λ a. HasRun id a in
        record {
          ids = id ∷ rest.ids;
          now = rest.now;
          ran = (subst R (sym is) refl, rest.ran);
          most = (let m = rest.most in omega (arith, m));
          ends = later rest.ids rest.now rest.ends;
        }

has_responses : (s : Kept) (ids : List ℕ) → All (λ id. IsSome (response_of id s)) ids → (list : List RanOne) × AreResponses s ids list
has_responses s [] all = ([], refl)
has_responses s (id ∷ ids) all =
    let rest = has_responses s ids (All-tail (λ n. IsSome (response_of n s)) id ids all) in
    by (response_of id s) refl (All-head (λ n. IsSome (response_of n s)) id ids all) rest.0 rest.1
  where
    by : (o : Option Response) → response_of id s ≡ o → IsSome o → (rest : List RanOne) → AreResponses s ids rest → (list : List RanOne) × AreResponses s (id ∷ ids) list
    by None is some rest are = cc
    by (Some r) is some rest are =
        let one : RanOne = record { id = id; response = r } in
        (one ∷ rest, ap (λ xs. Some one ∷ xs) are ∙ ap (λ o. option_map (λ (x : Response). record { id = id; response = x }) o ∷ map (ran_one s) ids) (sym is))

-- ---- what is shown

has_shown : (was : Kept) (out : Tried) → (r : Result Preview PreviewRefused) × Shows HaveRunAtMost was out r
has_shown was (Err f) = (Err (Order f.at f.refused), refl)
has_shown was (Ok tried) =
    let m = has_made (length (unfolded tried)) tried in
    let ran = has_responses m.now m.ids (run_responds tried m.now m.ids m.ran) in
    let p : Preview = record { ran = ran.0; rows = difference (rows_of was) (rows_of m.now); posts = new_posts was m.now } in (
      Ok p,
      (
        p,
        refl,
        record {
          ids = m.ids;
          now = m.now;
          repaired = record { ran = m.ran; most = m.most; ends = m.ends };
          ran = ran.1;
          rows = refl;
          posts = refl;
        },
      ),
    )

pub has_preview : (s : Kept) (trials : List Trial) (who : List ℕ) → (r : Result Preview PreviewRefused) × IsPreviewAtMost s trials who r
has_preview s trials who = by (not_ready s)
  where
    by : (o : Option PreviewRefused) → (r : Result Preview PreviewRefused) × MatchOption o (ShowsTrials HaveRunAtMost s trials who r) (λ (why : PreviewRefused). r ≡ Err why)
    by (Some why) = (Err why, refl)
    by None =
        let tried = has_tried s.journal who 0 0 s trials in
        let shown = has_shown s tried.0 in
        (shown.0, (tried.0, tried.1, shown.1))
