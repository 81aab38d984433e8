use Rattle.std.proofs.Common.{◌≡◌, ◌+◌, take}
use Rattle.std.specs.Prelude.{sum_by}
use Rattle.lang_core.specs.Rows.{cell_size}
use Rattle.handler_run.proofs.reads.bytes_fit.Given as goal

abbrev pub invariant-loop-cell : goal.invariant-loop-cell
invariant-loop-cell l = l.room + sum_by cell_size (take l.cell-index l.cells) ≡ l.most
