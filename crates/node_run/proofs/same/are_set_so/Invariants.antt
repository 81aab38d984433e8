use Rattle.std.proofs.Common.{◌≡◌, map, take}
use Rattle.node_run.specs.SetSo.{set_by, set_of}
use Rattle.node_run.proofs.same.are_set_so.Given as goal

abbrev pub invariant-loop-i : goal.invariant-loop-i
invariant-loop-i l = map set_of (take l.i l.services) ≡ map set_by (take l.i l.setups)
