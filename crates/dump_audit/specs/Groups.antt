-- Services in groups of one size, one behind another.
use Rattle.std.specs.Prelude.{◌≡◌, ℕ, ◌<◌, List, Option, Result, IfOk, length, slice_index_or}
use Rattle.std.specs.Fork.{slice_chunk}
use Rattle.lang_base.specs.declared.memory.NoMemory.{NoMemory}
use Rattle.dump_tables.specs.declared.dump.DumpService.{DumpService}
use Rattle.dump_audit.specs.Judging.{first_in, replay_fault}
use Rattle.dump_audit.specs.declared.judged.Judged.{Judged}

-- what the replays of a group come to, or that memory is wanting
abbrev pub Outcome : Type 0
Outcome = Result (Option Judged) NoMemory

-- it is the first fault of the group's replays, if they have one
abbrev pub IsOutcome : List DumpService → Outcome → Type 0
IsOutcome group outcome = IfOk outcome (λ found. found ≡ first_in replay_fault group)

-- these are the outcomes of the first groups of so many services, in order
abbrev pub EachOutcome : ℕ → List DumpService → List Outcome → Type 0
EachOutcome size world outcomes = (n : ℕ) (d : Outcome) → n < length outcomes → IsOutcome (slice_chunk world size n) (slice_index_or outcomes n d)
