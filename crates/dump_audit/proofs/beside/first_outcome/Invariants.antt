use Rattle.std.proofs.Common.{◌≡◌, ℕ, ◌*◌, List, drop, length}
use Rattle.dump_tables.specs.declared.dump.DumpService.{DumpService}
use Rattle.dump_audit.specs.Groups.{EachOutcome}
use Rattle.dump_audit.specs.Judging.{first_in, replay_fault}
use Rattle.dump_audit.proofs.beside.first_outcome.Given as goal

abbrev pub invariant-loop-outcome : goal.invariant-loop-outcome
invariant-loop-outcome l = (size : ℕ) (world : List DumpService) → EachOutcome size world l.fn.outcomes.items
    → first_in replay_fault (drop (length l.yielded * size) world) ≡ first_in replay_fault world
