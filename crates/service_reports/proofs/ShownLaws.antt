-- Of each order one thing is shown, and no other.
use Rattle.std.proofs.Common.{◌≡◌, ℕ, List, [], ◌∷◌, Option, Some, None, MatchOption, Result, Ok, Err, option_map, refl, sym, ap, ◌∙◌}
use Rattle.journal_rows.specs.declared.verdict.Outstanding.{Outstanding}
use Rattle.service_events.specs.State.{Kept, or_else}
use Rattle.preview_core.specs.Previews.{Shows, ShowsTrials, not_idle, untimely}
use Rattle.preview_core.specs.Repairs.{HaveRunAtMost}
use Rattle.preview_core.specs.Trials.{Tried}
use Rattle.preview_core.specs.declared.refused.PreviewRefused.{PreviewRefused}
use Rattle.preview_core.specs.declared.refused.PreviewRefused.TheVariants as refused
use Rattle.preview_core.specs.declared.told.Preview.{Preview}
use Rattle.preview_core.specs.declared.trial.Trial.{Trial}
use Rattle.preview_core.proofs.AloneLemmas.{preview_alone}
use Rattle.preview_core.proofs.MadeLemmas.{has_preview}
use Rattle.service_reports.specs.Previews.{IsPreviewOf, IsShownOf, shown_of}
use Rattle.service_reports.specs.declared.previews.Unshown.{Unshown}
use Rattle.service_reports.specs.declared.previews.Unshown.TheVariants as unshown

never_shows : (s : Kept) (out : Tried) → Shows HaveRunAtMost s out (Err refused.NoMemory) → ⊥
never_shows s (Ok tried) shows = absurd (cc (shows.1))
never_shows s (Err why) shows = absurd (cc shows)

-- that memory was wanting is no preview
never_lacks : (s : Kept) (trials : List Trial) (who : List ℕ) (busy : Option Outstanding) (early : Option ℕ)
    → MatchOption (or_else (option_map refused.NotIdle busy) (option_map refused.Untimely early)) (ShowsTrials HaveRunAtMost s trials who (Err refused.NoMemory))
    (λ (why : PreviewRefused). ◌≡◌ {A = Result Preview PreviewRefused} (Err refused.NoMemory) (Err why))
    → ⊥
never_lacks s trials who (Some what) early is = absurd (cc is)
never_lacks s trials who None (Some number) is = absurd (cc is)
never_lacks s trials who None None shows = never_shows s shows.0 (shows.2)

told_of : (trial : Trial) (who : List ℕ) (s : Kept) (result : Result Preview PreviewRefused) → IsPreviewOf trial who s result → (shown : Result (List ℕ) Unshown) × (shown_of s result ≡ Some shown)
told_of trial who s (Ok p) is = (_, refl)
told_of trial who s (Err refused.NoMemory) is = absurd (never_lacks s (trial ∷ []) who (not_idle s) (untimely s) is)
told_of trial who s (Err (refused.NotIdle what)) is = (_, refl)
told_of trial who s (Err (refused.Order at why)) is = (_, refl)
told_of trial who s (Err (refused.Untimely number)) is = (_, refl)

pub has_shown : (trial : Trial) (who : List ℕ) (s : Kept) → (shown : Result (List ℕ) Unshown) × IsShownOf trial who s shown
has_shown trial who s =
    let made = has_preview s (trial ∷ []) who in
    let told = told_of trial who s made.0 made.1 in
    (told.0, (made.0, made.1, told.1))

pub one_shown : (trial : Trial) (who : List ℕ) (s : Kept) (a b : Result (List ℕ) Unshown) → IsShownOf trial who s a → IsShownOf trial who s b → a ≡ b
one_shown trial who s a b x y =
    let same : Some a ≡ Some b = sym x.2 ∙ ap (shown_of s) (preview_alone s (trial ∷ []) who x.0 y.0 x.1 y.1) ∙ y.2 in
    cc same
