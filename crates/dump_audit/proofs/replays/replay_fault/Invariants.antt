use Rattle.std.proofs.Common.{◌≡◌, [], drop}
use Rattle.dump_audit.specs.Judging.{replay_from}
use Rattle.dump_audit.proofs.replays.replay_fault.Given as goal

abbrev pub invariant-loop-entry : goal.invariant-loop-entry
invariant-loop-entry l = replay_from l.service.setting l.rows (drop l.entry-index l.service.entries) l.service.rows ≡ replay_from l.service.setting [] l.service.entries l.service.rows
