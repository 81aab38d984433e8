use Rattle.std.proofs.Common.{◌≡◌, ◌++◌, drop}
use Rattle.service_events.specs.Calls.{all_deleted}
use Rattle.service_parts.proofs.rows.push_deleted.Given as goal

abbrev pub invariant-loop-i : goal.invariant-loop-i
invariant-loop-i g l =
    l.rows.items ++ all_deleted (g.R.RegistersView.list l.registers) (drop l.i l.numbers) (drop l.i l.calls) ≡ l.initial.rows.items ++ all_deleted (g.R.RegistersView.list l.registers) l.numbers l.calls
