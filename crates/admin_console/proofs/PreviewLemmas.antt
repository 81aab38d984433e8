-- What is replied tells what is shown.
use Rattle.std.proofs.Common.{◌≡◌, ℕ, List, Result, Ok, Err, IfOk}
use Rattle.lang_base.specs.declared.memory.NoMemory.{NoMemory as LacksMemory}
use Rattle.service_events.specs.State.{Kept}
use Rattle.service_reports.specs.HandedOn.{Trial}
use Rattle.service_reports.specs.Previews.{IsShownOf, IsShownUntilIdle}
use Rattle.service_reports.specs.declared.previews.Unshown.{Unshown}
use Rattle.http_front.specs.declared.message.WireResponse.{WireResponse}
use Rattle.admin_console.specs.Previews.{TellsShown, shown_reply}

pub told_shown : (trial : Trial) (who : List ℕ) (s : Kept) (shown : Result (List ℕ) Unshown) (reply : Result WireResponse LacksMemory) → IsShownUntilIdle trial who s shown → IsShownOf trial who s shown
    → IfOk reply (λ (response : WireResponse). response ≡ shown_reply shown) → IfOk reply (TellsShown trial who s)
told_shown trial who s shown (Ok response) until is told = (shown, (until, is), told)
told_shown trial who s shown (Err lacks) until is told = tt
