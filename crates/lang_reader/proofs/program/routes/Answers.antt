use Rattle.std.proofs.Common.{arith}
use Rattle.std.proofs.lemmas.Bool.Decides.{nat_tests}
use Rattle.std.proofs.lemmas.Result.{err_from_is_err_and}
use Rattle.lang_reader.specs.Readers.{most, routes_in}
use Rattle.lang_reader.proofs.Loops.{routes_go_on, routes_fail, routes_end, routes_too_many}
use Rattle.lang_reader.proofs.program.routes.Goals as goal

pub returns-then-is_empty : goal.returns-then-is_empty
returns-then-is_empty c = routes_end c.loop.routes most c.loop.counter c.loop.rest.now (routes_in most c.args.tokens.now) c.loop-test.true (let e = c.if-is_empty.ensures in grind (arith, nat_tests)) c.loop.invariant

pub returns-in_err-route : goal.returns-in_err-route
returns-in_err-route c =
    let p = err_from_is_err_and c.from_residual.result c.from_residual.ensures.1 in
    rw (p.1, p.2) (routes_fail c.in_err-route.field-0.0 c.loop.routes most c.loop.counter c.loop.rest.now (routes_in most c.args.tokens.now) c.loop-test.true
    (let e = c.if-is_empty.ensures in grind (arith, nat_tests)) c.in_err-route.ensures c.loop.invariant)

pub loop-preserved : goal.loop-preserved
loop-preserved c =
    rw c.in_ok-push.ensures.ok (routes_go_on c.loop.routes most c.loop.counter c.loop.rest.now c.in_ok-route.route c.in_ok-route.after.now (routes_in most c.args.tokens.now) c.loop-test.true
    (let e = c.if-is_empty.ensures in grind (arith, nat_tests)) c.in_ok-route.ensures c.loop.invariant)

pub returns : goal.returns
returns c = rw c.refused.ensures (routes_too_many c.loop.routes most c.loop.counter c.loop.rest.now (routes_in most c.args.tokens.now) c.loop-test.false c.loop.invariant)
