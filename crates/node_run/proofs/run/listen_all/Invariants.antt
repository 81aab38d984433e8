use Rattle.std.proofs.Common.{◌≡◌, ◌≤◌, vec_len}
use Rattle.node_run.proofs.run.listen_all.Given as goal

abbrev pub invariant-loop-setup : goal.invariant-loop-setup
invariant-loop-setup g l = record {
  len : vec_len l.ears ≡ l.setup-index;
  counted : g.D.Door.faults l.fn.doors ≤ g.D.Door.faults l.doors;
}
