use Rattle.std.proofs.Common.{◌≡◌, take}
use Rattle.handler_run.specs.Runs.{own_beneath}
use Rattle.handler_run.proofs.reads.own_beneath.Given as goal

abbrev pub invariant-loop-write : goal.invariant-loop-write
invariant-loop-write l = l.beneath ≡ own_beneath l.table l.prefix (take l.write-index l.writes)
