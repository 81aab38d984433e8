-- What comes of an answer that was fetched.
use Rattle.std.specs.Prelude.{Option, Some, None, if◌then◌else◌}
use Rattle.repair_messages.specs.declared.messages.AnswerMessage.{AnswerMessage}
use Rattle.journal_rows.specs.declared.caller.NotedRow.{NotedRow}
use Rattle.call_registers.specs.Registers.{is_newer}
use Rattle.call_registers.specs.declared.register.Register.{Register}
use Rattle.service_events.specs.Messages.{fetched_row}
use Rattle.service_deliveries.specs.declared.fetching.Sight.{Sight}
use Rattle.service_deliveries.specs.declared.fetching.Sight.TheVariants.{New, Known, Unasked}

-- it is new where it is above the one that is held
abbrev pub sight_by : AnswerMessage → Register → NotedRow → Sight
sight_by a r n = if is_newer r.answer a.answer_version then New (fetched_row a n) else Known

-- where a token announced it
abbrev pub sight_of : AnswerMessage → Register → Option NotedRow → Sight
sight_of a r None = Unasked
sight_of a r (Some n) = sight_by a r n

-- and the service has that call
abbrev pub sight_where : AnswerMessage → Option Register → Option NotedRow → Sight
sight_where a None n = Unasked
sight_where a (Some r) n = sight_of a r n
