-- What is shown of a preview.
use Rattle.std.proofs.Common.{◌≡◌, ℕ, List, Some, Ok, Err, option_map, sym, ap}
use Rattle.lang_base.specs.Memory.{Unless}
use Rattle.service_events.specs.State.{Kept}
use Rattle.preview_core.specs.Previews.{preview_memory}
use Rattle.preview_core.specs.declared.refused.PreviewRefused.{PreviewRefused}
use Rattle.preview_core.specs.declared.refused.PreviewRefused.TheVariants as refused
use Rattle.preview_core.specs.declared.told.Preview.{Preview}
use Rattle.preview_core.specs.declared.trial.Trial.{Trial}
use Rattle.service_reports.specs.Lines.{or_nothing, shown_text}
use Rattle.service_reports.specs.Previews.{IsPreviewOf, IsPreviewUntilIdle, IsShownOf, IsShownUntilIdle, reason}
use Rattle.service_reports.specs.declared.previews.Unshown.{Unshown}

module _ (trial : Trial) (who : List ℕ) (s : Kept) where
  pub lines_shown : (shown : Preview) (text : List ℕ) → IsPreviewOf trial who s (Ok shown) → text ≡ or_nothing (shown_text s shown) → IsShownOf trial who s (Ok text)
  lines_shown shown text is told = (Ok shown, is, ap (λ (t : List ℕ). Some (Ok t)) (sym told))

  pub reason_shown : (why : PreviewRefused) (told : Unshown) → Unless (preview_memory why) (IsPreviewOf trial who s (Err why)) Unit → reason why ≡ Some told → IsShownOf trial who s (Err told)
  reason_shown refused.NoMemory told is same = absurd (cc same)
  reason_shown (refused.NotIdle what) told is same = (Err (refused.NotIdle what), is, ap (option_map Err) same)
  reason_shown (refused.Order at why) told is same = (Err (refused.Order at why), is, ap (option_map Err) same)
  reason_shown (refused.Untimely number) told is same = (Err (refused.Untimely number), is, ap (option_map Err) same)

  -- ---- the same of steps until one is idle

  pub lines_until : (shown : Preview) (text : List ℕ) → IsPreviewUntilIdle trial who s (Ok shown) → text ≡ or_nothing (shown_text s shown) → IsShownUntilIdle trial who s (Ok text)
  lines_until shown text is told = (Ok shown, is, ap (λ (t : List ℕ). Some (Ok t)) (sym told))

  pub reason_until : (why : PreviewRefused) (told : Unshown) → Unless (preview_memory why) (IsPreviewUntilIdle trial who s (Err why)) Unit → reason why ≡ Some told → IsShownUntilIdle trial who s (Err told)
  reason_until refused.NoMemory told is same = absurd (cc same)
  reason_until (refused.NotIdle what) told is same = (Err (refused.NotIdle what), is, ap (option_map Err) same)
  reason_until (refused.Order at why) told is same = (Err (refused.Order at why), is, ap (option_map Err) same)
  reason_until (refused.Untimely number) told is same = (Err (refused.Untimely number), is, ap (option_map Err) same)
