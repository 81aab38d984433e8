use Rattle.std.proofs.Common.{◌≡◌, ◌+◌, vec_len, length}
use Rattle.node_run.proofs.working.join_all.Given as goal

abbrev pub invariant-loop-ticket : goal.invariant-loop-ticket
invariant-loop-ticket g l = vec_len l.passes ≡ vec_len l.fn.passes + length l.yielded
