-- Reports of a service.
use Rattle.std.specs.Prelude.{ℕ, List, Option}
use Rattle.service_events.specs.HandedOn.{rows_after}
use Rattle.repair_messages.specs.declared.refusals.Refusal.{Refusal}
use Rattle.report_text.specs.HandedOn.{notices}
use Rattle.report_text.specs.Notices.{notices_text}
use Rattle.report_text.specs.Reports.{log_text, rows_text}
use Rattle.service_events.specs.State.{Kept, base, folded, me, unfolded}

abbrev pub rows_of_service : Kept → List ℕ
rows_of_service s = rows_text (rows_after (base s) (unfolded s))

abbrev pub log_of_service : Kept → List ℕ
log_of_service s = log_text (me s) (folded s) (unfolded s)

-- what it has held, and why a fold waits
abbrev pub notices_of_service : Option Refusal → Kept → List ℕ
notices_of_service waits s = notices_text (notices s.registers s.replies) waits
