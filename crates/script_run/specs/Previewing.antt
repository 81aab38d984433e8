-- What is said of an order that is only tried.
use Rattle.std.specs.Prelude.{ℕ, ◌≡◌, List, Option, Some, None, Result, Ok, Err, codes}
use Rattle.lang_tree.specs.declared.program.Route.{Route}
use Rattle.order_texts.specs.declared.refused.TextFault.TheVariants.{Program}
use Rattle.service_events.specs.Refusals.{order_refusal}
use Rattle.service_events.specs.State.{Kept, me}
use Rattle.service_reports.specs.HandedOn.{Trial}
use Rattle.service_reports.specs.HandedOn as trial
use Rattle.service_reports.specs.Previews.{IsShownOf}
use Rattle.service_reports.specs.declared.previews.Unshown.{Unshown}
use Rattle.service_reports.specs.declared.previews.Unshown.TheVariants.{NotIdle, Order, Untimely}
use Rattle.script_text.specs.Happenings.{Told, refusal_told, refused_line}
use Rattle.script_lines.specs.declared.line.LineFault.TheVariants.{Service}
use Rattle.script_run.specs.Counting.{printed}
use Rattle.script_run.specs.Giving.{text_refused}
use Rattle.script_run.specs.Told.{LineAnswer}

-- the word and the number of a refusal
abbrev pub unshown_refusal : Unshown → Told
unshown_refusal NotIdle = (codes "notidle", Some 0)
unshown_refusal (Untimely number) = (codes "untimely", Some number)
unshown_refusal (Order why) = refusal_told (order_refusal why)

-- a line for each of what is shown, or `S refused WORD NUMBER`
abbrev pub preview_text : Kept → Result (List ℕ) Unshown → List ℕ
preview_text s (Ok lines) = lines
preview_text s (Err why) = refused_line (me s) (unshown_refusal why) None

-- what is printed of an order of this user that is tried
abbrev pub PrintsPreview : Trial → List ℕ → Kept → List ℕ → Type 0
PrintsPreview order who s text = (shown : Result (List ℕ) Unshown) × IsShownOf order who s shown × (text ≡ preview_text s shown)

-- what is printed of the correction of the program of this number, by what was read of a text: of one that is no program, where
abbrev pub PrintsRehearsal : ℕ → List ℕ → Result (List Route) ℕ → Kept → List ℕ → Type 0
PrintsRehearsal number who (Ok program) s text = PrintsPreview (trial.Correct number program) who s text
PrintsRehearsal number who (Err at) s text = text ≡ text_refused (Program at) s

-- it is said of a service, if that is there
abbrev pub SaysShown : (Kept → List ℕ → Type 0) → Option Kept → LineAnswer → Type 0
SaysShown Prints None said = said ≡ Err Service
SaysShown Prints (Some s) said = (text : List ℕ) × Prints s text × (said ≡ Ok (printed text))
