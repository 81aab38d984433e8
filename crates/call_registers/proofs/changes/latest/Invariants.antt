use Rattle.std.proofs.Common.{◌≡◌, drop, fold}
use Rattle.call_registers.specs.Overlays.{later}
use Rattle.call_registers.proofs.changes.latest.Given as goal

abbrev pub invariant-loop-register : goal.invariant-loop-register
invariant-loop-register l = fold (later l.number) l.found (drop l.register-index l.changed) ≡ fold (later l.number) l.initial.found l.changed
