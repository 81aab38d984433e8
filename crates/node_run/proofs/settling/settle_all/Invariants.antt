use Rattle.node_run.specs.Settled.{HaveSettled}
use Rattle.node_run.proofs.settling.settle_all.Given as goal

abbrev pub invariant-loop-service : goal.invariant-loop-service
invariant-loop-service l = HaveSettled l.yielded l.settled.items
