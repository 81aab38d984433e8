-- What a report says.
use Rattle.std.specs.Prelude.{ℕ, List, Option, Some, None, Ok, Err}
use Rattle.service_events.specs.State.{Kept}
use Rattle.script_lines.specs.declared.line.LineFault.TheVariants.{Service}
use Rattle.script_run.specs.Counting.{printed}
use Rattle.script_run.specs.Told.{LineAnswer}

-- what a report says of a service, if it is there
abbrev pub report_of : (Kept → List ℕ) → Option Kept → LineAnswer
report_of report None = Err Service
report_of report (Some s) = Ok (printed (report s))
