-- What an operator is told of the service behind a lock.
use Rattle.std.specs.Prelude.{◌≡◌, Option, Some}
use Rattle.repair_messages.specs.declared.refusals.Refusal.{Refusal}
use Rattle.service_events.specs.State.{Kept}
use Rattle.http_front.specs.declared.message.WireResponse.{WireResponse}
use Rattle.admin_console.specs.Replies.{report_reply}
use Rattle.admin_console.specs.Reports.{report_of}
use Rattle.admin_console.specs.declared.asking.Asked.{Asked}
use Rattle.admin_console.specs.declared.asking.Asked.TheVariants.{Report}

-- where a report is asked for, it is one of this service, for which a fold waits for this reason
abbrev pub TellsReport : Option Asked → Option Refusal → Kept → WireResponse → Type 0
TellsReport (Some (Report report)) waits s response = response ≡ report_reply (report_of report waits s)
TellsReport asked waits s response = Unit {0}
