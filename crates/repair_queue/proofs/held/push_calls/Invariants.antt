use Rattle.std.proofs.Common.{◌≡◌, ◌++◌, filter_map, take}
use Rattle.repair_queue.specs.Held.{call_notice}
use Rattle.repair_queue.proofs.held.push_calls.Given as goal

abbrev pub invariant-loop-register : goal.invariant-loop-register
invariant-loop-register l = l.list ≡ l.initial.list ++ filter_map call_notice (take l.register-index l.registers)
