use Rattle.repair_queue.specs.Held.{call_notice}
use Rattle.repair_queue.proofs.HeldLemmas.{some_more}
use Rattle.repair_queue.proofs.held.push_calls.Goals as goal

pub loop-register-preserved : goal.loop-register-preserved
loop-register-preserved c =
    some_more call_notice c.args.list.now c.loop-register.list c.push_some.new.list c.args.registers.now c.loop-register.register-index c.register-item.result c.call_notice.result
    c.loop-register-test.true c.register-item.is c.loop-register.invariant c.call_notice.ensures c.in_ok-push_some.ensures
