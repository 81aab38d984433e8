-- The verdict over services that are being served.
use Rattle.std.specs.Prelude.{◌≡◌, ℕ, List, All, map}
use Rattle.io_edge.specs.Edge.{Writes}
use Rattle.journal_rows.specs.declared.verdict.Verdict.{Verdict}
use Rattle.report_text.specs.Reports.{verdict_text}
use Rattle.service_events.specs.Allowed.{IsAllowed}
use Rattle.service_events.specs.Fits.{Fits}
use Rattle.service_events.specs.State.{Kept}
use Rattle.world_audit.specs.Verdicts.{IsVerdict}
use Rattle.world_file.specs.Worlds.{name_of}
use Rattle.world_file.specs.declared.setup.Setup.{Setup}
use Rattle.node_workers.specs.HandedOn.{Served}
use Rattle.node_workers.specs.HandedOn as served
use Rattle.node_workers.specs.Written.{IsTextSo}
use Rattle.node_run.specs.SetSo.{AreSetSo}

-- the line says the audit's verdict over these services, which are set up so, fit their journals, and whose rules allowed each repair in those
pub record SaysVerdict (setups : List Setup) (services : List Kept) (line : List ℕ) : Type 0 where
  pub set_so : AreSetSo setups services
  pub fits : All Fits services
  pub allowed : All IsAllowed services
  pub verdict : Verdict
  pub is : IsVerdict services verdict
  pub says : line ≡ verdict_text (map name_of setups) verdict

-- there are such services
abbrev pub IsLiveVerdict : List Setup → List ℕ → Type 0
IsLiveVerdict setups line = (services : List Kept) × SaysVerdict setups services line

-- ---- what is written

-- an operator is told such a line, and its write may fail; where memory is wanting nothing is written
abbrev pub IsVerdictTold : List Setup → Writes → Writes → Served → Type 0
IsVerdictTold setups before now served.NoMemory = now ≡ before
IsVerdictTold setups before now answer = (line : List ℕ) × IsLiveVerdict setups line × IsTextSo line before now answer
