use Rattle.std.proofs.Common.{◌≡◌, map, take}
use Rattle.dependency_index.specs.Reads.{read_at}
use Rattle.dependency_index.proofs.reads.are_read.Given as goal

abbrev pub invariant-loop-i : goal.invariant-loop-i
invariant-loop-i l = take l.i l.places ≡ map read_at (take l.i l.reads)
