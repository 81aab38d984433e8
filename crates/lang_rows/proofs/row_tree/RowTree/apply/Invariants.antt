use Rattle.std.proofs.Common.{◌≡◌, drop}
use Rattle.lang_core.specs.Rows.{apply}
use Rattle.lang_rows.proofs.row_tree.RowTree.apply.Given as goal

abbrev pub invariant-loop-write : goal.invariant-loop-write
invariant-loop-write l = apply l.self (drop l.write-index l.write-items) ≡ apply l.fn.self l.fn.writes
