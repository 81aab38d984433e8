-- Repair steps until one is idle, and what the entries that ran answer then.
use Rattle.std.specs.Prelude.{ℕ, ◌≡◌, ◌≤◌, ◌⊎◌, Bool, true, false, List, [], ◌∷◌, ◌++◌, Option, Some, All, IsSome, length, map, option_and_then, option_map}
use Rattle.lang_core.specs.declared.ids.Origin.{Origin}
use Rattle.lang_core.specs.declared.inputs.Inputs.{Inputs}
use Rattle.lang_core.specs.declared.request.Request.{Request}
use Rattle.lang_core.specs.declared.request.Response.{Response}
use Rattle.lang_programs.specs.Numbered.{Numbered}
use Rattle.request_log.specs.Records.{Record, record_of}
use Rattle.request_log.specs.declared.entry.Entry.{Entry}
use Rattle.local_repair.specs.Current.{AllCurrent}
use Rattle.local_repair.specs.declared.stepped.Stepped.{Stepped}
use Rattle.local_repair.specs.declared.stepped.Stepped.TheVariants.{Idle, Ran}
use Rattle.service_events.specs.Orders.{entry_of}
use Rattle.service_events.specs.State.{Kept, answers, base, unfolded}
use Rattle.service_events.specs.Steps.{step_event}
use Rattle.preview_core.specs.declared.told.RanOne.{RanOne}

-- the entry of this number ran
abbrev pub HasRun : ℕ → Stepped → Type 0
HasRun id Idle = ⊥
HasRun id (Ran ran answered) = ran ≡ id

-- repair steps, one behind another, at which the entries of these numbers ran
abbrev pub HaveRun : Kept → List ℕ → Kept → Type 0
HaveRun s [] now = now ≡ s
HaveRun s (id ∷ ids) now = HasRun id (step_event s).answer × HaveRun (step_event s).service ids now

-- they ran, and the next step is idle
pub record HaveRunUntilIdle (s : Kept) (ids : List ℕ) (now : Kept) : Type 0 where
  pub ran : HaveRun s ids now
  pub idle : (step_event now).answer ≡ Idle

-- They ran, at most as many as there are entries that aren't folded, and the next step is idle or they are as many.
pub record HaveRunAtMost (s : Kept) (ids : List ℕ) (now : Kept) : Type 0 where
  pub ran : HaveRun s ids now
  pub most : length ids ≤ length (unfolded s)
  pub ends : ((step_event now).answer ≡ Idle) ⊎ (length ids ≡ length (unfolded s))

-- ---- what they answer

-- what an entry answered in its last run
abbrev pub response_in : Option Entry → Option Response
response_in o = option_and_then (λ (e : Entry). option_map (λ (r : Record). r.response) (record_of e)) o

-- what the entry of this number did
abbrev pub response_of : ℕ → Kept → Option Response
response_of id s = response_in (entry_of id s)

-- it with its number
abbrev pub ran_one : Kept → ℕ → Option RanOne
ran_one s id = option_map (λ (r : Response). record { id = id; response = r }) (response_of id s)

-- these are the entries of these numbers, each with what it answered in its last run
abbrev pub AreResponses : Kept → List ℕ → List RanOne → Type 0
AreResponses s ids list = map Some list ≡ map (ran_one s) ids

-- ---- what no step changes

-- what an entry is to answer, under which program, whatever its runs did
pub record Asks : Type 0 where
  pub id : ℕ
  pub origin : Origin
  pub version : ℕ
  pub request : Request
  pub wanted : Bool
  pub struck : Bool
  pub inputs : Inputs
  pub program : Numbered

abbrev pub asks : Entry → Asks
asks e = record {
  id = e.id;
  origin = e.origin;
  version = e.version;
  request = e.request;
  wanted = e.wanted;
  struck = e.struck;
  inputs = e.inputs;
  program = e.under.now;
}

abbrev pub all_asks : Kept → List Asks
all_asks s = map asks s.entries

-- Steps until one is idle are at most as many as there are entries that aren't folded, and leave none of these stale. Each entry that ran has a response,
-- and what is asked stays.
pub record HasRepaired (s : Kept) (ids : List ℕ) (now : Kept) : Type 0 where
  pub repaired : HaveRunUntilIdle s ids now
  pub most : length ids ≤ length (unfolded s)
  pub current : AllCurrent (answers now) (base now) (unfolded now)
  pub answered : All (λ id. IsSome (response_of id now)) ids
  pub same : all_asks now ≡ all_asks s

-- ---- on the way

-- whether a step ran an entry, whose number is noted behind the others then
abbrev pub IsNoted : Stepped → List ℕ → List ℕ → Bool → Type 0
IsNoted Idle before after ran = (ran ≡ false) × (after ≡ before)
IsNoted (Ran id answered) before after ran = (ran ≡ true) × (after ≡ before ++ id ∷ [])
