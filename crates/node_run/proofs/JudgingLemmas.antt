-- Verdicts, and whom they speak of.
use Rattle.std.proofs.Common.{List, length}
use Rattle.journal_rows.specs.declared.verdict.Verdict.{Verdict}
use Rattle.journal_rows.specs.declared.verdict.Verdict.TheVariants.{Legal, Forged, Unsettled}
use Rattle.report_text.specs.Reports.{IsVerdictOver}
use Rattle.service_events.specs.State.{Kept}
use Rattle.world_audit.specs.Verdicts.{IsVerdict}

-- it speaks of one of the services
pub verdict_within : (services : List Kept) (v : Verdict) → IsVerdict services v → IsVerdictOver (length services) v
verdict_within services Legal h = tt
verdict_within services (Forged at index) h = (h.service).0
verdict_within services (Unsettled at what) h = ((h.first).service).0
