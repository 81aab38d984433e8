-- Which preview is printed.
use Rattle.std.proofs.Common.{◌≡◌, ℕ, List, Result, Ok, Err, IfOk, subst}
use Rattle.lang_base.specs.declared.memory.NoMemory.{NoMemory}
use Rattle.lang_tree.specs.declared.program.Route.{Route}
use Rattle.order_texts.specs.declared.refused.TextFault.TheVariants.{Program}
use Rattle.service_events.specs.State.{Kept}
use Rattle.service_reports.specs.HandedOn.{Correct, Trial}
use Rattle.service_reports.specs.Previews.{IsShownOf}
use Rattle.service_reports.specs.declared.previews.Unshown.{Unshown}
use Rattle.script_run.specs.Giving.{text_refused}
use Rattle.script_run.specs.Previewing.{PrintsPreview, PrintsRehearsal, preview_text}

-- what is shown is printed
pub shown_prints : (trial : Trial) (who : List ℕ) (s : Kept) (shown : Result (List ℕ) Unshown) (text : Result (List ℕ) NoMemory) → IsShownOf trial who s shown
    → IfOk text (λ t. t ≡ preview_text s shown) → IfOk text (PrintsPreview trial who s)
shown_prints trial who s shown (Ok text) is told = (shown, is, told)
shown_prints trial who s shown (Err lacks) is told = tt

module _ (number : ℕ) (who : List ℕ) (s : Kept) (read : Result (List Route) ℕ) (text : Result (List ℕ) NoMemory) where
  -- of a text that is a program, its correction is
  pub program_prints : (program : List Route) → Ok program ≡ read → IfOk text (PrintsPreview (Correct number program) who s) → IfOk text (PrintsRehearsal number who read s)
  program_prints program is prints =
      let P : Result (List Route) ℕ → Type 0 = λ r. IfOk text (PrintsRehearsal number who r s) in
      subst P is prints

  -- of one that is none, where
  pub fault_prints : (at : ℕ) → Err at ≡ read → IfOk text (λ t. t ≡ text_refused (Program at) s) → IfOk text (PrintsRehearsal number who read s)
  fault_prints at is prints =
      let P : Result (List Route) ℕ → Type 0 = λ r. IfOk text (PrintsRehearsal number who r s) in
      subst P is prints
