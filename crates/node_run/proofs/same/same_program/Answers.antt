use Rattle.node_run.proofs.SameLemmas.{IsPrinted, printed, same_printed}
use Rattle.node_run.proofs.same.same_program.Goals as goal

pub returns : goal.returns
returns c =
    let left : IsPrinted c.args.left.now c.in_ok-one.one =
    printed c.args.left.now c.routes.result.now c.in_ok-one.one c.routes.ensures.routes c.routes.ensures.fit c.in_ok-one.ensures.held c.in_ok-one.ensures.text in
    let right : IsPrinted c.args.right.now c.in_ok-other.other =
    printed c.args.right.now c.routes-2.result.now c.in_ok-other.other c.routes-2.ensures.routes c.routes-2.ensures.fit c.in_ok-other.ensures.held c.in_ok-other.ensures.text in
    same_printed c.args.left.now c.args.right.now c.in_ok-one.one c.in_ok-other.other c.same_short.result left right c.same_short.ensures
