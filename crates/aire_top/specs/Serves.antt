-- How serving ends, once a world is loaded.
use Rattle.std.specs.Prelude.{◌≡◌, ◌⊎◌, ℕ, List, [], ◌∷◌, ◌++◌, Some, None, codes, decimal, map}
use Rattle.std.specs.List.{count_by, flat_map}
use Rattle.lang_base.specs.Texts.{same_text}
use Rattle.io_edge.specs.Edge.{Rose, Writes}
use Rattle.command_ends.specs.Ends.{EndsWith, StatusOf}
use Rattle.journal_rows.specs.declared.verdict.Verdict.{Verdict}
use Rattle.report_text.specs.Reports.{verdict_text}
use Rattle.service_events.specs.State.{Kept, me}
use Rattle.world_file.specs.declared.setup.Setup.{Setup}
use Rattle.node_run.specs.HandedOn.{Agrees, Receipt, SamePlace}
use Rattle.node_run.specs.Ends.{IsGoodEnd}
use Rattle.node_run.specs.Stopping.{IsOfOne}
use Rattle.node_run.specs.declared.refused.RunRefused.{RunRefused}
use Rattle.node_run.specs.declared.refused.RunRefused.TheVariants.{NoMemory, DoorFault, NotStarted, Differs, Twice}
use Rattle.aire_top.specs.Ended.{Ending, Faults, Whose, ending, plain}
use Rattle.aire_top.specs.Endings.{Answer, LacksMemory, nothing}

-- ---- what is written

-- how many receipts are a service's
abbrev pub receipts_of : List Receipt → List ℕ → ℕ
receipts_of receipts name = count_by (λ (r : Receipt). same_text r.service name) receipts

-- `NAME receipts N`
abbrev pub receipts_line : List Receipt → Kept → List ℕ
receipts_line receipts s = me s ++ (codes " receipts " ++ (decimal (receipts_of receipts (me s)) ++ codes "\n"))

-- a line for each service, in order, and then the verdict
abbrev pub end_text : List Kept → List Receipt → Verdict → List ℕ
end_text services receipts verdict = flat_map (receipts_line receipts) services ++ verdict_text (map me services) verdict

abbrev pub door_line : List ℕ
door_line = codes "door fault\n"

abbrev pub worker_line : List ℕ
worker_line = codes "worker not started\n"

-- `receipt S/I`: the answer that a receipt is of
abbrev pub receipt_line : Receipt → List ℕ
receipt_line r = codes "receipt " ++ (r.service ++ (codes "/" ++ (decimal r.index ++ codes "\n")))

-- ---- the ends

-- 0 and 5: the run ended well, an operator of one of these services having asked for that, and what it came to is written;
-- with 5 a write failed
pub record HasServed (setups : List Setup) (before now : Writes) (e : Ending) : Type 0 where
  pub status : ℕ
  pub services : List Kept
  pub receipts : List Receipt
  pub verdict : Verdict
  pub last : Whose
  pub good : IsGoodEnd setups services receipts verdict
  pub asked : IsOfOne setups last.service last.console
  pub answered : e ≡ ending status services (Some verdict) receipts (Some last)
  pub prints : StatusOf before now (end_text services receipts verdict) status

-- 7: a door couldn't be listened at
pub record HasNoDoor (doors doors_now : ℕ) (before now : Writes) (e : Ending) : Type 0 where
  pub answered : e ≡ plain (nothing 7)
  pub rose : Rose doors doors_now
  pub ends : EndsWith before now [] door_line

-- 8: a worker couldn't be started
pub record HasNoWorker (starts starts_now : ℕ) (before now : Writes) (e : Ending) : Type 0 where
  pub answered : e ≡ plain (nothing 8)
  pub rose : Rose starts starts_now
  pub ends : EndsWith before now [] worker_line

-- services, and receipts of which something is amiss
abbrev pub amiss : List Kept → List Receipt → Ending
amiss services receipts = ending 9 services None receipts None

-- 9: a receipt doesn't agree with the services that are handed back
pub record HasDiffering (before now : Writes) (e : Ending) : Type 0 where
  pub services : List Kept
  pub receipt : Receipt
  pub differs : ¬ (Agrees services receipt)
  pub answered : e ≡ amiss services (receipt ∷ [])
  pub ends : EndsWith before now [] (receipt_line receipt)

-- 9: or two that agree are of one answer
pub record HasTwice (before now : Writes) (e : Ending) : Type 0 where
  pub services : List Kept
  pub first : Receipt
  pub second : Receipt
  pub twice : SamePlace first second
  pub agree : Agrees services first × Agrees services second
  pub answered : e ≡ amiss services (first ∷ second ∷ [])
  pub ends : EndsWith before now [] (receipt_line first)

-- 6: memory is wanting
abbrev pub IsLacking : Writes → Writes → Ending → Type 0
IsLacking before now e = (a : Answer) × (e ≡ plain a) × LacksMemory before now a

-- serving ends in one of these six ways
abbrev pub ServeEnds : List Setup → Faults → Faults → Writes → Writes → Ending → Type 0
ServeEnds setups earlier later before now e =
    HasServed setups before now e
    ⊎ (HasNoDoor earlier.doors later.doors before now e
    ⊎ (HasNoWorker earlier.starts later.starts before now e
    ⊎ (HasDiffering before now e
    ⊎ (HasTwice before now e
    ⊎ IsLacking before now e))))

-- ---- a run that didn't end well

-- how serving ends then, but for what is known of why
abbrev pub EndsRefused : RunRefused → Writes → Writes → Ending → Type 0
EndsRefused NoMemory before now e = IsLacking before now e
EndsRefused DoorFault before now e = (e ≡ plain (nothing 7)) × EndsWith before now [] door_line
EndsRefused NotStarted before now e = (e ≡ plain (nothing 8)) × EndsWith before now [] worker_line
EndsRefused (Differs receipt services) before now e =
    ((e ≡ amiss services.items (receipt ∷ [])) × EndsWith before now [] (receipt_line receipt)) ⊎ IsLacking before now e
EndsRefused (Twice first second services) before now e =
    ((e ≡ amiss services.items (first ∷ second ∷ [])) × EndsWith before now [] (receipt_line first)) ⊎ IsLacking before now e
