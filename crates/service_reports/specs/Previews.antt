-- What is shown of the preview of one order.
use Rattle.std.specs.Prelude.{ℕ, ◌≡◌, List, [], ◌∷◌, Option, Some, None, Result, Ok, Err, option_map}
use Rattle.service_events.specs.State.{Kept}
use Rattle.preview_core.specs.Previews.{IsPreview, IsPreviewAtMost}
use Rattle.preview_core.specs.declared.refused.PreviewRefused.{PreviewRefused}
use Rattle.preview_core.specs.declared.refused.PreviewRefused.TheVariants as refused
use Rattle.preview_core.specs.declared.told.Preview.{Preview}
use Rattle.preview_core.specs.declared.trial.Trial.{Trial}
use Rattle.service_reports.specs.Lines.{or_nothing, shown_text}
use Rattle.service_reports.specs.declared.previews.Unshown.{Unshown}
use Rattle.service_reports.specs.declared.previews.Unshown.TheVariants as unshown

-- what would come of this order by this user, and of steps until one is idle or there were as many as entries
abbrev pub IsPreviewOf : Trial → List ℕ → Kept → Result Preview PreviewRefused → Type 0
IsPreviewOf trial who s result = IsPreviewAtMost s (trial ∷ []) who result

-- the same, of steps until one is idle
abbrev pub IsPreviewUntilIdle : Trial → List ℕ → Kept → Result Preview PreviewRefused → Type 0
IsPreviewUntilIdle trial who s result = IsPreview s (trial ∷ []) who result

-- why nothing is shown; where memory was wanting there is no reason to tell
abbrev pub reason : PreviewRefused → Option Unshown
reason refused.NoMemory = None
reason (refused.NotIdle what) = Some unshown.NotIdle
reason (refused.Order at why) = Some (unshown.Order why)
reason (refused.Untimely number) = Some (unshown.Untimely number)

-- the lines, or why there are none
abbrev pub shown_of : Kept → Result Preview PreviewRefused → Option (Result (List ℕ) Unshown)
shown_of s (Ok p) = Some (Ok (or_nothing (shown_text s p)))
shown_of s (Err why) = option_map Err (reason why)

-- this is shown of it
abbrev pub IsShownOf : Trial → List ℕ → Kept → Result (List ℕ) Unshown → Type 0
IsShownOf trial who s shown = (result : Result Preview PreviewRefused) × IsPreviewOf trial who s result × (shown_of s result ≡ Some shown)

-- this is shown of it, of steps until one is idle
abbrev pub IsShownUntilIdle : Trial → List ℕ → Kept → Result (List ℕ) Unshown → Type 0
IsShownUntilIdle trial who s shown = (result : Result Preview PreviewRefused) × IsPreviewUntilIdle trial who s result × (shown_of s result ≡ Some shown)
