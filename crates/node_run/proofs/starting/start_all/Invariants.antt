use Rattle.std.proofs.Common.{◌≡◌, ◌+◌, ◌≤◌, vec_len}
use Rattle.node_run.proofs.starting.start_all.Given as goal

abbrev pub invariant-loop-place : goal.invariant-loop-place
invariant-loop-place g l = record {
  kept : vec_len l.passes + vec_len l.tickets ≡ vec_len l.fn.passes + vec_len l.fn.tickets;
  counted : g.P.Spawner.faults l.fn.spawner ≤ g.P.Spawner.faults l.spawner;
}
