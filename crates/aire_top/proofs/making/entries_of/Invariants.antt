use Rattle.std.proofs.Common.{◌≡◌, take}
use Rattle.script_run.specs.Counting.{capped}
use Rattle.aire_top.specs.Making.{entries_of}
use Rattle.aire_top.proofs.making.entries_of.Given as goal

abbrev pub invariant-loop-service : goal.invariant-loop-service
invariant-loop-service l = l.entries ≡ capped (entries_of (take l.service-index l.services))
