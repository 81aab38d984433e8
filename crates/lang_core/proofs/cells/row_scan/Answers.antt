use Rattle.lang_core.specs.Rows.{is_beneath}
use Rattle.lang_core.proofs.RowLemmas.{ordered-filter, ordered-kept}
use Rattle.lang_core.proofs.cells.row_scan.Goals as goal

pub invariant_of-result : goal.invariant_of-result
invariant_of-result c =
    rw (c.in_ok-items.ensures, c.deref.ensures.value)
    (ordered-kept 0 0 _ (ordered-filter (is_beneath c.args.table.now c.args.prefix.now) c.cells.inside.items.items c.cells.invariant))
