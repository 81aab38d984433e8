-- What the program answers.
use Rattle.std.specs.Prelude.{ℕ, List, [], Option, Some, None}
use Rattle.journal_rows.specs.declared.verdict.Verdict.{Verdict}
use Rattle.service_events.specs.State.{Kept}
use Rattle.node_run.specs.HandedOn.{Receipt}
use Rattle.aire_top.specs.Endings.{Answer}

-- where an operator asked to stop: at which service, and with which console secret
pub record Whose : Type 0 where
  pub service : List ℕ
  pub console : List ℕ

abbrev pub whose : List ℕ → List ℕ → Whose
whose service console = record { service = service; console = console }

-- a status, services and the verdict over them, receipts of what they answered, and where an operator asked to stop
pub record Ending : Type 0 where
  pub status : ℕ
  pub services : List Kept
  pub verdict : Option Verdict
  pub receipts : List Receipt
  pub last : Option Whose

abbrev pub ending : ℕ → List Kept → Option Verdict → List Receipt → Option Whose → Ending
ending status services verdict receipts last =
    record { status = status; services = services; verdict = verdict; receipts = receipts; last = last }

-- whose connection it is, if there is one
abbrev pub last_of : {X : Type 0} → Option X → (X → Whose) → Option Whose
last_of None of_one = None
last_of (Some last) of_one = Some (of_one last)

-- what a command answers that serves nobody: there are no receipts, and nobody asked to stop
abbrev pub plain : Answer → Ending
plain a = ending a.status a.services a.verdict [] None

-- the counts of faults of the door and of the spawner
pub record Faults : Type 0 where
  pub doors : ℕ
  pub starts : ℕ

abbrev pub faults : ℕ → ℕ → Faults
faults doors starts = record { doors = doors; starts = starts }
