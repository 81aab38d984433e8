use Rattle.std.proofs.Common.{◌≡◌, drop}
use Rattle.dump_audit.specs.Judging.{replay_fault, first_in}
use Rattle.dump_audit.proofs.judging.first_replay.Given as goal

abbrev pub invariant-loop-service : goal.invariant-loop-service
invariant-loop-service l = first_in replay_fault (drop l.service-index l.world) ≡ first_in replay_fault l.fn.world
