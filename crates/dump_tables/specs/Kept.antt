-- What each dump keeps: nothing in it is told twice, and each call is told whole.
use Rattle.std.specs.Prelude.{◌≡◌, ℕ, List, [], ◌∷◌, ◌++◌, Some, length, map}
use Rattle.std.specs.List.{AllByRecursion, flat_map}
use Rattle.lang_core.specs.Places.{IsOrdered}
use Rattle.lang_core.specs.Rows.{cell_place}
use Rattle.lang_core.specs.declared.ids.Origin.{Origin}
use Rattle.lang_core.specs.declared.ids.Origin.TheVariants.{Outside, Call}
use Rattle.lang_core.specs.declared.trace.CallMade.{CallMade}
use Rattle.dump_tables.specs.Programs.{numbered}
use Rattle.dump_tables.specs.declared.dump.DumpEntry.{DumpEntry}
use Rattle.dump_tables.specs.declared.dump.DumpService.{DumpService}
use Rattle.dump_tables.specs.declared.programs.DumpPrograms.{DumpPrograms}

-- no two of these are the same
abbrev pub AreApart : {X : Type 0} → List X → Type 0
AreApart [] = Unit {0}
AreApart (x ∷ xs) = AllByRecursion (λ y. ¬ (x ≡ y)) xs × AreApart xs

-- the call that an origin is, if it is one
abbrev pub call_behind : Origin → List (List ℕ × ℕ)
call_behind Outside = []
call_behind (Call caller number) = (caller, number) ∷ []

-- the calls that these entries come from
abbrev pub calls_behind : List DumpEntry → List (List ℕ × ℕ)
calls_behind entries = flat_map (λ e. call_behind e.origin) entries

-- the numbers of the calls of these entries
abbrev pub numbers_of : List DumpEntry → List ℕ
numbers_of entries = flat_map (λ e. e.numbers) entries

-- a call of this service is for the service itself, and has the service behind the chain of its entry
abbrev pub IsSent : List ℕ → List (List ℕ) → CallMade → Type 0
IsSent me chain c = (c.request.who ≡ me) × (c.request.chain ≡ chain ++ me ∷ [])

-- an entry of this service has a number and an answer for each of its calls
pub record IsWhole (me : List ℕ) (e : DumpEntry) : Type 0 where
  pub named : length e.calls ≡ length e.numbers
  pub answered : length e.answers ≡ length e.numbers
  pub sent : AllByRecursion (IsSent me e.request.chain) e.calls

-- an entry runs under the program of its number
abbrev pub IsUnder : DumpPrograms → DumpEntry → Type 0
IsUnder programs e = numbered e.under programs ≡ Some e.program

-- in a service no number of an entry stands twice, no call that an entry comes from, no number of a call, and no table and key of a row; its first program is
-- its setting's, and each entry runs under that of its number
pub record IsKept (s : DumpService) : Type 0 where
  pub weight : s.setting.weight ≡ 0
  pub first : s.programs.first ≡ s.setting.program
  pub ids : AreApart (map (λ e. e.id) s.entries)
  pub callers : AreApart (calls_behind s.entries)
  pub numbers : AreApart (numbers_of s.entries)
  pub rows : IsOrdered cell_place s.rows
  pub entries : AllByRecursion (IsWhole s.setting.me) s.entries
  pub under : AllByRecursion (IsUnder s.programs) s.entries

abbrev pub service_name : DumpService → List ℕ
service_name s = s.setting.me

-- no name of a service stands twice
pub record AreKept (services : List DumpService) : Type 0 where
  pub names : AreApart (map service_name services)
  pub each : AllByRecursion IsKept services
