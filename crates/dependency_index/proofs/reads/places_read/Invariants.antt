use Rattle.std.proofs.Common.{◌≡◌, map, take}
use Rattle.dependency_index.specs.Reads.{read_at}
use Rattle.dependency_index.proofs.reads.places_read.Given as goal

abbrev pub invariant-loop-read : goal.invariant-loop-read
invariant-loop-read l = l.places ≡ map read_at (take l.read-index l.reads)
