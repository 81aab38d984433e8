use Rattle.std.proofs.Common.{◌∙◌, false, true}
use Rattle.handler_run.specs.Runs.{block_of, stmt_of}
use Rattle.handler_run.proofs.BlockLemmas.{goes_past, turns_past}
use Rattle.handler_run.proofs.EachLemmas.{each_ran}
use Rattle.handler_run.proofs.IfLemmas.{if_faults, if_ran}
use Rattle.handler_run.proofs.blocks.+exec.Goals as goal

pub run_stmt-returns-in_ok-cells-in-Each : goal.run_stmt-returns-in_ok-cells-in-Each
run_stmt-returns-in_ok-cells-in-Each g t c =
    rw c.in-Each.is
    (each_ran c.args.given.now (g.V.View.rows c.args.view.now) c.in-Each.key c.in-Each.text c.in-Each.table c.in-Each.prefix c.in-Each.block
    c.args.state.now c.cells_of.new.state c.run_each.new.state c.in_ok-cells-in-Each.cells c.run_each.result c.in_ok-cells-in-Each.ensures c.run_each.ensures)

pub run_stmt-returns-in-Ok-true : goal.run_stmt-returns-in-Ok-true
run_stmt-returns-in-Ok-true g t c =
    let chosen = rw (c.in-Ok-true.is, c.in-Ok-true.field-0-test) at c.in_ok-is_chosen-in-If.ensures in
    rw c.in-If.is
    (if_ran c.args.given.now (g.V.View.rows c.args.view.now) c.in-If.test c.in-If.then c.in-If.other c.args.state.now c.run_block.new.state true c.run_block.result chosen c.run_block.ensures)

pub run_stmt-returns-in-Ok-false : goal.run_stmt-returns-in-Ok-false
run_stmt-returns-in-Ok-false g t c =
    let chosen = rw (c.in-Ok-false.is, c.in-Ok-false.field-0-test) at c.in_ok-is_chosen-in-If.ensures in
    rw c.in-If.is
    (if_ran c.args.given.now (g.V.View.rows c.args.view.now) c.in-If.test c.in-If.then c.in-If.other c.args.state.now c.run_other.new.state false c.run_other.result chosen c.run_other.ensures)

pub run_stmt-returns-in-Err : goal.run_stmt-returns-in-Err
run_stmt-returns-in-Err g t c =
    let stops = rw c.in-Err.is at c.in_ok-is_chosen-in-If.ensures in
    rw c.in-If.is (if_faults c.args.given.now (g.V.View.rows c.args.view.now) c.in-If.test c.in-If.then c.in-If.other c.args.state.now c.in-Err.fault stops)

pub run_turns-loop-cell-preserved : goal.run_turns-loop-cell-preserved
run_turns-loop-cell-preserved g t c =
    turns_past c.args.key.now c.args.text.now (block_of c.args.given.now (g.V.View.rows c.args.view.now) c.args.block.now) c.args.cells.now c.loop-cell.cell-index c.cell-item.result
    c.loop-cell.state c.begin.new.self c.set_cell.new.state c.run_block.new.state c.loop-cell-test.true c.cell-item.is
    (rw c.if-not-begin.false at c.begin.ensures) c.in_ok-set_cell.ensures (rw c.in-GoesOn.is at c.in_ok-flow.ensures)
    ∙ c.loop-cell.invariant

pub run_block-loop-stmt-preserved : goal.run_block-loop-stmt-preserved
run_block-loop-stmt-preserved g t c =
    goes_past (stmt_of c.args.given.now (g.V.View.rows c.args.view.now)) c.as_slice-stmt-items.result.now c.loop-stmt.stmt-index c.stmt-item.result
    c.loop-stmt.state c.begin.new.self c.run_stmt.new.state c.loop-stmt-test.true c.stmt-item.is
    (rw c.if-not-begin.false at c.begin.ensures) (rw c.in-GoesOn.is at c.in_ok-flow.ensures)
    ∙ c.loop-stmt.invariant
