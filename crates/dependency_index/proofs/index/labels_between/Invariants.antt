use Rattle.std.proofs.Common.{◌≡◌, take}
use Rattle.std.specs.List.{filter}
use Rattle.dependency_index.specs.Reads.{is_between}
use Rattle.dependency_index.proofs.index.labels_between.Given as goal

abbrev pub invariant-loop-label : goal.invariant-loop-label
invariant-loop-label l = l.kept ≡ filter (is_between l.order.labels l.from l.to) (take l.label-index l.labels)
