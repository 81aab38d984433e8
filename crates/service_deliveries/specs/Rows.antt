-- The rows of a version of a call that is taken.
use Rattle.std.specs.Prelude.{ℕ, List, [], ◌∷◌}
use Rattle.lang_core.specs.declared.inputs.Inputs.{Inputs}
use Rattle.lang_core.specs.declared.request.Request.{Request}
use Rattle.repair_messages.specs.declared.messages.SetMessage.{SetMessage}
use Rattle.journal_rows.specs.declared.callee.TookHow.TheVariants.{Message}
use Rattle.journal_rows.specs.declared.row.Row.{Row}
use Rattle.journal_rows.specs.declared.row.Row.TheVariants.{Took}
use Rattle.service_events.specs.State.{Kept}
use Rattle.service_events.specs.Messages.{acked_row, created_row}

-- taken, as this rule allows
abbrev pub took_by : ℕ → SetMessage → Row
took_by rule set =
    Took (record {
      caller = set.caller;
      number = set.number;
      version = set.version;
      desired = set.desired;
      how = Message;
      who = set.who;
      rule = rule;
    })

abbrev pub taken_rows : ℕ → SetMessage → List Row
taken_rows rule set = took_by rule set ∷ (acked_row set ∷ [])

abbrev pub created_rows : ℕ → Kept → SetMessage → Request → Inputs → List Row
created_rows rule s set q i = took_by rule set ∷ (created_row s set q i ∷ (acked_row set ∷ []))
