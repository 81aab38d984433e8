use Rattle.std.proofs.Common.{◌≡◌, ◌+◌, ◌≤◌, vec_len}
use Rattle.node_run.proofs.starting.start_requests.Given as goal

abbrev pub invariant-loop-i : goal.invariant-loop-i
invariant-loop-i g l = record {
  kept : vec_len l.passes + vec_len l.tickets ≡ vec_len l.fn.passes + vec_len l.fn.tickets;
  counted : g.P.Spawner.faults l.fn.spawner ≤ g.P.Spawner.faults l.spawner;
}
