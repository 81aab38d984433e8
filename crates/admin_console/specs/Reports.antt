-- The reports of a service.
use Rattle.std.specs.Prelude.{ℕ, List, Option}
use Rattle.repair_messages.specs.declared.refusals.Refusal.{Refusal}
use Rattle.service_events.specs.State.{Kept}
use Rattle.service_reports.specs.Changed.{changed_of_service}
use Rattle.service_reports.specs.Programs.{programs_of_service}
use Rattle.service_reports.specs.Reports.{log_of_service, notices_of_service, rows_of_service}
use Rattle.admin_console.specs.declared.asking.Report.{Report}
use Rattle.admin_console.specs.declared.asking.Report.TheVariants.{Changed, Log, Notices, Programs, Rows}

-- a report's text, of a service as it is: what it has held and why a fold waits, its log, its rows, its programs and rules, or whose answers changed
abbrev pub report_of : Report → Option Refusal → Kept → List ℕ
report_of Notices waits s = notices_of_service waits s
report_of Log waits s = log_of_service s
report_of Rows waits s = rows_of_service s
report_of Programs waits s = programs_of_service s
report_of Changed waits s = changed_of_service s
