use Rattle.std.proofs.Common.{sym}
use Rattle.std.proofs.lemmas.Result.{err_from_is_err_and}
use Rattle.lang_reader.specs.Readers.{block_at, expr_at, most, stmt_in, stmts_in}
use Rattle.lang_reader.proofs.Loops.{stmts_go_on, stmts_fail, stmts_end, stmts_too_many}
use Rattle.lang_reader.proofs.stmts.+block.Goals as goal

pub stmts-returns-in-Some : goal.stmts-returns-in-Some
stmts-returns-in-Some t c =
    stmts_end (stmt_in (expr_at 32) (block_at c.args.levels)) c.loop.stmts most c.loop.counter c.loop.rest.now c.in-Some.after.now _ c.loop-test.true
    (sym (rw c.in-Some.is at c.close.ensures)) c.loop.invariant

pub stmts-returns-in_err-stmt : goal.stmts-returns-in_err-stmt
stmts-returns-in_err-stmt t c =
    let p = err_from_is_err_and c.from_residual.result c.from_residual.ensures.1 in
    rw (p.1, p.2) (stmts_fail c.in_err-stmt.field-0.0 (stmt_in (expr_at 32) (block_at c.args.levels)) c.loop.stmts most c.loop.counter c.loop.rest.now
    (stmts_in most (stmt_in (expr_at 32) (block_at c.args.levels)) c.args.tokens.now) c.loop-test.true
    (sym (rw c.in_default.is at c.close.ensures)) c.in_err-stmt.ensures c.loop.invariant)

pub stmts-loop-preserved : goal.stmts-loop-preserved
stmts-loop-preserved t c =
    rw c.in_ok-push.ensures.ok (stmts_go_on (stmt_in (expr_at 32) (block_at c.args.levels)) c.loop.stmts most c.loop.counter c.loop.rest.now c.in_ok-stmt.stmt c.in_ok-stmt.after.now
    (stmts_in most (stmt_in (expr_at 32) (block_at c.args.levels)) c.args.tokens.now) c.loop-test.true
    (sym (rw c.in_default.is at c.close.ensures)) c.in_ok-stmt.ensures c.loop.invariant)

pub stmts-returns : goal.stmts-returns
stmts-returns t c =
    rw c.refused.ensures (stmts_too_many (stmt_in (expr_at 32) (block_at c.args.levels)) c.loop.stmts most c.loop.counter c.loop.rest.now
    (stmts_in most (stmt_in (expr_at 32) (block_at c.args.levels)) c.args.tokens.now) c.loop-test.false c.loop.invariant)
