-- What a line prints, as a contract sees it.
use Rattle.std.specs.Prelude.{ℕ, List}
use Rattle.std.specs.String.{string_bytes}
use Rattle.script_run.specs.declared.printed.Form.{Form}
use Rattle.script_run.specs.declared.printed.Form.TheVariants.{Line, Report}

-- the bytes, in whichever form they were made
abbrev pub form_bytes : Form → List ℕ
form_bytes (Line line) = string_bytes line
form_bytes (Report text) = text
