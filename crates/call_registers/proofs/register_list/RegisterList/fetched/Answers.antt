use Rattle.std.proofs.Common.{subst}
use Rattle.call_registers.specs.Waiting.{AreFetched, KeptList}
use Rattle.call_registers.proofs.WaitingLemmas.{are_fetched}
use Rattle.call_registers.proofs.register_list.RegisterList.fetched.Goals as goal

pub returns-clause-fetched : goal.returns-clause-fetched
returns-clause-fetched c =
    subst (λ (l : KeptList). AreFetched c.args.dest.now l.list c.fetched.result.now) c.self.view_is
    (are_fetched c.self.inside.list.items c.self.inside.queues.fetched c.self.invariant.numbered c.self.invariant.fetched c.args.dest.now c.fetched.result.now
    c.fetched.ensures.keys c.fetched.ensures.rising)
