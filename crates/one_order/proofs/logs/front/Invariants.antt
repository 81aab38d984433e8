use Rattle.std.proofs.Common.{◌≡◌, drop}
use Rattle.one_order.specs.Logs.{acts_of}
use Rattle.one_world.specs.Searches.{front}
use Rattle.one_order.proofs.logs.front.Given as goal

abbrev pub invariant-loop-entry : goal.invariant-loop-entry
invariant-loop-entry l = front (acts_of (drop l.entry-index l.left)) ≡ front (acts_of l.fn.left)
