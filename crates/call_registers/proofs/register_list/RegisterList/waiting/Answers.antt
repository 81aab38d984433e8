use Rattle.std.proofs.Common.{subst}
use Rattle.call_registers.specs.Waiting.{AreWaiting, KeptList}
use Rattle.call_registers.proofs.WaitingLemmas.{are_waiting}
use Rattle.call_registers.proofs.register_list.RegisterList.waiting.Goals as goal

pub returns-clause-waiting : goal.returns-clause-waiting
returns-clause-waiting c =
    subst (λ (l : KeptList). AreWaiting c.args.dest.now l.list c.waiting.result.now) c.self.view_is
    (are_waiting c.self.inside.list.items c.self.inside.queues.waiting c.self.invariant.numbered c.self.invariant.waiting c.args.dest.now c.waiting.result.now
    c.waiting.ensures.keys c.waiting.ensures.rising)
