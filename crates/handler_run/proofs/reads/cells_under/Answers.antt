use Rattle.std.proofs.Common.{◌≡◌, nat_le, true, length, arith}
use Rattle.handler_run.specs.Runs.{with_cells}
use Rattle.handler_run.proofs.EachLemmas.{with_turns}
use Rattle.handler_run.proofs.reads.cells_under.Goals as goal

pub returns : goal.returns
returns g c =
    let short : nat_le (length c.args.prefix.now) 256 ≡ true = grind arith in
    rw (short, ← c.in_ok-cells.ensures)
    (with_turns (with_cells c.in_ok-cells.cells c.args.table.now c.args.prefix.now c.args.state.now) _ c.cells_over.result c.cells_over.ensures)
