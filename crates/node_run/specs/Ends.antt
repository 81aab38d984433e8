-- What a run comes to that ends well.
use Rattle.std.specs.Prelude.{ℕ, ◌≡◌, List, All, IsSomeAnd, find}
use Rattle.call_registers.specs.Registers.{IsTimely}
use Rattle.journal_rows.specs.declared.verdict.Verdict.{Verdict}
use Rattle.journal_rows.specs.declared.verdict.Verdict.TheVariants.{Legal}
use Rattle.service_events.specs.Allowed.{IsAllowed}
use Rattle.service_events.specs.Fits.{Fits}
use Rattle.service_events.specs.State.{Kept}
use Rattle.world_agreement.specs.Legal.{AreLegal, IsAsRecorded}
use Rattle.world_audit.specs.Verdicts.{IsVerdict}
use Rattle.world_file.specs.declared.setup.Setup.{Setup}
use Rattle.node_core.specs.Closings.{IsWhole, IsWholeSince}
use Rattle.node_core.specs.declared.receipt.Receipt.{Receipt}
use Rattle.node_run.specs.Peers.{has_name}
use Rattle.node_run.specs.SetSo.{AreSetSo}
use Rattle.node_run.specs.Settled.{IsAtRest}

-- no entry of it is stale, and its records are the replay of the requests that survive
pub record IsReplayed (s : Kept) : Type 0 where
  pub rests : IsAtRest s
  pub recorded : IsAsRecorded s

-- its reply is sealed with the secret of the setup of its service, the first of that name
abbrev pub IsSealedBy : List Setup → Receipt → Type 0
IsSealedBy setups r = IsSomeAnd (find (has_name r.service) setups) (λ (setup : Setup). r.secret ≡ setup.secret)

-- The services are those of the setups, in order. Each fits its journal, and its rules allowed each repair in that; and no entry of a timely one is stale,
-- so its records and rows are a replay's. This is so of journals and receipts, whose secrets are those of the setups. The verdict is the audit's, and where it is Legal all logs and rows form one
-- legal execution.
pub record IsEnd (AreOneToOne : Type 0) (setups : List Setup) (services : List Kept) (receipts : List Receipt) (verdict : Verdict) : Type 0 where
  pub set_so : AreSetSo setups services
  pub fits : All Fits services
  pub allowed : All IsAllowed services
  pub replayed : All (λ (s : Kept). IsTimely s.registers → IsReplayed s) services
  pub whole : AreOneToOne
  pub sealed : All (IsSealedBy setups) receipts
  pub judged : IsVerdict services verdict
  pub legal : verdict ≡ Legal → AreLegal services

-- each live request that a journal answers has exactly one receipt, which agrees with the journal
abbrev pub IsGoodEnd : List Setup → List Kept → List Receipt → Verdict → Type 0
IsGoodEnd setups services receipts verdict = IsEnd (IsWhole services receipts) setups services receipts verdict

-- each that a journal answers from the index at its place on has, and no answer before that has one
abbrev pub IsGoodEndSince : List ℕ → List Setup → List Kept → List Receipt → Verdict → Type 0
IsGoodEndSince since setups services receipts verdict = IsEnd (IsWholeSince since services receipts) setups services receipts verdict
