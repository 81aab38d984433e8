use Rattle.std.proofs.Common.{◌≡◌, drop, map}
use Rattle.handler_run.specs.Runs.{turns, in_turn, stmt_of, block_of}
use Rattle.handler_run.proofs.blocks.+exec.Given as goal

abbrev pub invariant-run_block-loop-stmt : goal.invariant-run_block-loop-stmt
invariant-run_block-loop-stmt g l =
    in_turn (map (stmt_of l.given (g.V.View.rows l.view)) (drop l.stmt-index l.stmt-items)) l.state
    ≡ block_of l.given (g.V.View.rows l.view) l.block l.initial.state

abbrev pub invariant-run_turns-loop-cell : goal.invariant-run_turns-loop-cell
invariant-run_turns-loop-cell g l =
    turns l.key l.text (block_of l.given (g.V.View.rows l.view) l.block) (drop l.cell-index l.cells) l.state
    ≡ turns l.key l.text (block_of l.given (g.V.View.rows l.view) l.block) l.cells l.initial.state
