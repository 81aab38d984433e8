use Rattle.std.proofs.Common.{◌≡◌, ◌+◌, ◌-◌, ◌*◌}
use Rattle.lang_reader.specs.Readers.{block_at, expr_at, most, stmt_in, stmts_in}
use Rattle.lang_reader.proofs.Loops.{with_stmts}
use Rattle.lang_reader.proofs.stmts.+block.Given as goal

abbrev pub decreases-block : goal.decreases-block
decreases-block l = 7 * l.levels

abbrev pub decreases-each_stmt : goal.decreases-each_stmt
decreases-each_stmt l = 7 * l.levels + 1

abbrev pub decreases-else_block : goal.decreases-else_block
decreases-else_block l = 7 * l.levels + 1

abbrev pub decreases-if_stmt : goal.decreases-if_stmt
decreases-if_stmt l = 7 * l.levels + 3

abbrev pub decreases-blocks : goal.decreases-blocks
decreases-blocks l = 7 * l.levels + 2

abbrev pub decreases-stmt : goal.decreases-stmt
decreases-stmt l = 7 * l.levels + 4

abbrev pub decreases-stmts : goal.decreases-stmts
decreases-stmts l = 7 * l.levels + 5

abbrev pub decreases-any_block : goal.decreases-any_block
decreases-any_block l = 7 * l.levels + 6

abbrev pub invariant-stmts-loop : goal.invariant-stmts-loop
invariant-stmts-loop l =
    with_stmts l.stmts (stmts_in (most - l.counter) (stmt_in (expr_at 32) (block_at l.levels)) l.rest)
    ≡ stmts_in most (stmt_in (expr_at 32) (block_at l.levels)) l.tokens
