use Rattle.std.proofs.Common.{◌≡◌, drop}
use Rattle.call_registers.specs.Overlays.{overlaid}
use Rattle.service_events.specs.Calls.{after_rows}
use Rattle.service_parts.proofs.noting.note_rows.Given as goal

abbrev pub invariant-loop-row : goal.invariant-loop-row
invariant-loop-row l =
    after_rows l.at (overlaid l.changes l.standing.list) (drop l.row-index l.rows) ≡ after_rows l.first (overlaid l.initial.changes l.standing.list) l.rows
