use Rattle.std.proofs.Common.{take}
use Rattle.execution.specs.HandedOn.{GivesAll}
use Rattle.log_index.specs.Rows.{rows_before}
use Rattle.local_repair.proofs.current.reads_hold.Given as goal

abbrev pub invariant-loop-read : goal.invariant-loop-read
invariant-loop-read l = GivesAll (rows_before l.place l.rows) (take l.read-index l.reads)
