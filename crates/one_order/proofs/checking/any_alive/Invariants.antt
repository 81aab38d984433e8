use Rattle.std.proofs.Common.{◌≡◌, drop}
use Rattle.std.specs.List.{list_any}
use Rattle.execution.specs.Executions.{survives}
use Rattle.one_order.specs.Logs.{acts_of}
use Rattle.one_order.proofs.checking.any_alive.Given as goal

abbrev pub invariant-loop-entry : goal.invariant-loop-entry
invariant-loop-entry l = list_any survives (acts_of (drop l.entry-index l.left)) ≡ list_any survives (acts_of l.fn.left)
