use Rattle.lang_core.proofs.RowLemmas.{ordered-apply}
use Rattle.lang_core.proofs.ReadLemmas.{get-apply}
use Rattle.lang_core.proofs.writes.apply_writes.Goals as goal

pub invariant_of-cells-2 : goal.invariant_of-cells-2
invariant_of-cells-2 c =
    rw (c.apply_all.ensures, c.reserve.ensures.items) (ordered-apply c.cells.inside.items.items c.in_ok-writes.writes.items c.cells.invariant)

pub returns-clause-reads : goal.returns-clause-reads
returns-clause-reads c t k =
    rw (c.apply_all.ensures, c.reserve.ensures.items, c.in_ok-writes.ensures, c.as_slice.ensures.items, ← c.cells.view_is)
    (get-apply c.cells.inside.items.items c.args.writes.now t k c.cells.invariant c.as_slice.ensures.ordered)
