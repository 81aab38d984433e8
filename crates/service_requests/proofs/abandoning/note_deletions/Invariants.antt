use Rattle.std.proofs.Common.{◌≡◌, drop}
use Rattle.service_events.specs.Calls.{after_rows}
use Rattle.service_requests.proofs.abandoning.note_deletions.Given as goal

abbrev pub invariant-loop-at : goal.invariant-loop-at
invariant-loop-at l = after_rows l.at l.registers.list (drop l.at l.journal) ≡ after_rows l.first l.initial.registers.list (drop l.first l.journal)
