-- From services that are brought to rest to what a run comes to.
use Rattle.std.proofs.Common.{◌≡◌, ℕ, ◌<◌, List, [], ◌∷◌, All, IfOk, Result, Ok, Err, length, map, refl, sym, ap, ◌∙◌, subst, arith}
use Rattle.std.specs.List.{IsDistinct}
use Rattle.std.specs.Cmp.Lexicographic.{bytes_decides}
use Rattle.std.proofs.lemmas.List.{get_or-map, length-map}
use Rattle.std.proofs.lemmas.List.Elements.{All-cons, All-head, All-nil, All-tail}
use Rattle.std.proofs.lemmas.Map.Made.{AllPairs-from_IsDistinct}
use Rattle.lang_core.specs.declared.setting.Setting.{Setting}
use Rattle.lang_base.specs.Texts.{same_text}
use Rattle.lang_base.specs.declared.memory.NoMemory.{NoMemory}
use Rattle.call_registers.specs.Registers.{IsTimely}
use Rattle.service_events.specs.Fits.{Fits}
use Rattle.service_events.specs.State.{Kept, me}
use Rattle.world_agreement.proofs.HandedOn.{recorded as as_recorded}
use Rattle.world_agreement.specs.Partners.{NamesDiffer}
use Rattle.world_file.specs.Worlds.{name_of}
use Rattle.world_file.specs.declared.setup.Setup.{Setup}
use Rattle.node_run.specs.Peers.{AreApart}
use Rattle.node_run.specs.SetSo.{AreSetSo, set_by, set_of}
use Rattle.node_run.specs.Settled.{HaveSettled}
use Rattle.journal_rows.specs.declared.verdict.Verdict.{Verdict}
use Rattle.journal_rows.specs.declared.verdict.Verdict.TheVariants.{Legal}
use Rattle.report_text.specs.Reports.{IsVerdictOver, verdict_text}
use Rattle.service_events.specs.Allowed.{IsAllowed}
use Rattle.world_agreement.specs.Legal.{AreLegal}
use Rattle.world_audit.specs.Verdicts.{IsVerdict}
use Rattle.node_core.specs.Closings.{IsWholeSince}
use Rattle.node_core.specs.declared.receipt.Receipt.{Receipt}
use Rattle.node_run.specs.Ends.{IsGoodEndSince, IsReplayed, IsSealedBy}
use Rattle.node_run.specs.Looking.{IsLiveVerdict, SaysVerdict}
use Rattle.node_run.proofs.WholeKept.{whole_kept}

-- ---- names

-- the services of the setups have their names
pub names_same : (setups : List Setup) (services : List Kept) → AreSetSo setups services → map me services ≡ map name_of setups
names_same [] [] same = refl
names_same [] (s ∷ services) same = cc
names_same (setup ∷ setups) [] same = cc
names_same (setup ∷ setups) (s ∷ services) same =
    let first : set_of s ≡ set_by setup = cc in
    let more : AreSetSo setups services = cc in
    let setting : s.setting ≡ setup.setting = ap (λ set. set.0) first in
    let name : me s ≡ name_of setup = ap (λ (x : Setting). x.me) setting in
    let names = names_same setups services more in cc

pub names_differ : (setups : List Setup) (services : List Kept) → AreApart setups → AreSetSo setups services → NamesDiffer services
names_differ setups services apart same = λ i j d before inside alike.
    let D : List (List ℕ) → Type 0 = λ names. IsDistinct same_text names in
    let distinct : IsDistinct same_text (map me services) = subst D (sym (names_same setups services same)) apart in
    let there : j < length (map me services) = rw (length-map services me) inside in
    let first = get_or-map me services i d (me d) (omega (arith, before, inside)) in
    let second = get_or-map me services j d (me d) inside in
    AllPairs-from_IsDistinct bytes_decides (map me services) distinct i j (me d) before there (first ∙ alike ∙ sym second)

-- ---- replays

abbrev pub TimelyIsReplayed : Kept → Type 0
TimelyIsReplayed s = IsTimely s.registers → IsReplayed s

-- a service that is at rest is a replay of its requests
pub all_replayed : (before services : List Kept) → HaveSettled before services → All Fits services → All TimelyIsReplayed services
all_replayed [] [] settled fits = All-nil TimelyIsReplayed
all_replayed [] (t ∷ ts) settled fits = absurd settled
all_replayed (s ∷ ss) [] settled fits = absurd settled
all_replayed (s ∷ ss) (t ∷ ts) settled fits =
    let one : TimelyIsReplayed t = λ timely. (let rests = settled.0.rests timely in
    record { rests = rests; recorded = as_recorded t (All-head Fits t ts fits) rests }) in
    All-cons TimelyIsReplayed t ts one (all_replayed ss ts settled.1 (All-tail Fits t ts fits))

-- ---- the end of a run

pub good_end : (since : List ℕ) (setups : List Setup) (before services : List Kept) (receipts : List Receipt) (verdict : Verdict) → AreApart setups
    → IsWholeSince since before receipts → All (IsSealedBy setups) receipts → HaveSettled before services → AreSetSo setups services → All Fits services → All IsAllowed services
    → IsVerdict services verdict → (NamesDiffer services → verdict ≡ Legal → AreLegal services) → IsGoodEndSince since setups services receipts verdict
good_end since setups before services receipts verdict apart whole sealed settled set_so fits allowed judged legal = record {
  set_so = set_so;
  fits = fits;
  allowed = allowed;
  replayed = all_replayed before services settled fits;
  whole = whole_kept since before services receipts settled whole;
  sealed = sealed;
  judged = judged;
  legal = legal (names_differ setups services apart set_so);
}

-- ---- a verdict beside the workers

pub live_line : (setups : List Setup) (services : List Kept) (names : List (List ℕ)) (verdict : Verdict) (line : Result (List ℕ) NoMemory)
    → AreSetSo setups services → All Fits services → All IsAllowed services → IsVerdict services verdict → names ≡ map name_of setups
    → IfOk line (λ text. text ≡ verdict_text names verdict) → IfOk line (SaysVerdict setups services)
live_line setups services names verdict (Err why) set_so fits allowed is same says = tt
live_line setups services names verdict (Ok line) set_so fits allowed is same says = record {
  set_so = set_so;
  fits = fits;
  allowed = allowed;
  verdict = verdict;
  is = is;
  says = says ∙ ap (λ (all : List (List ℕ)). verdict_text all verdict) same;
}

-- it is one of services at one moment
pub said_live : (setups : List Setup) (services : List Kept) (line : Result (List ℕ) NoMemory) → IfOk line (SaysVerdict setups services) → IfOk line (IsLiveVerdict setups)
said_live setups services (Err why) says = tt
said_live setups services (Ok line) says = (services, says)

-- there are as many names as services
pub over_names : (setups : List Setup) (services : List Kept) (names : List (List ℕ)) (verdict : Verdict) → AreSetSo setups services → names ≡ map name_of setups
    → IsVerdictOver (length services) verdict → IsVerdictOver (length names) verdict
over_names setups services names verdict set_so same over =
    let as_many : length names ≡ length services = ap length (same ∙ sym (names_same setups services set_so)) ∙ length-map services me in
    subst (λ n. IsVerdictOver n verdict) (sym as_many) over
