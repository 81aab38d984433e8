-- Keys by which entries and their calls are found.
use Rattle.std.specs.Prelude.{◌≡◌, ℕ, zero, suc, ◌+◌, Bool, List, [], ◌∷◌, ◌++◌, Option, Some, None, drop, map, nat_eq, slice_index}
use Rattle.std.specs.List.{flat_map, list_any}
use Rattle.lang_core.specs.declared.ids.Origin.{Origin}
use Rattle.lang_core.specs.declared.ids.Origin.TheVariants.{Outside, Call}
use Rattle.lang_lists.specs.Keys.{call_key}
pub use Rattle.lang_lists.specs.Ends.{end_behind, last_end}
use Rattle.dump_tables.specs.declared.dump.DumpEntry.{DumpEntry}

abbrev pub number_of : DumpEntry → ℕ
number_of e = e.id

-- of an origin; an entry from outside, for which nothing looks, has that of its number
abbrev pub origin_key : ℕ → Origin → ℕ
origin_key id Outside = id
origin_key id (Call caller number) = call_key caller number

abbrev pub entry_key : DumpEntry → ℕ
entry_key e = origin_key e.id e.origin

abbrev pub call_numbers : DumpEntry → List ℕ
call_numbers e = e.numbers

-- the place of the entry of each call, where the first entry has this place
abbrev pub places_from : ℕ → List DumpEntry → List ℕ
places_from n [] = []
places_from n (e ∷ entries) = map (λ _. n) e.numbers ++ places_from (n + 1) entries

-- the numbers of entries, the keys of their origins, and the numbers of their calls with the places of those that call, each in
-- order
pub record AreIndexed (entries : List DumpEntry) (ids origins calls places : List ℕ) : Type 0 where
  pub by_id : ids ≡ map number_of entries
  pub by_origin : origins ≡ map entry_key entries
  pub by_call : calls ≡ flat_map call_numbers entries
  pub by_place : places ≡ places_from 0 entries

-- the place before this end, if that isn't 0
abbrev pub place_at : List ℕ → ℕ → Option ℕ
place_at places zero = None
place_at places (suc n) = Some (slice_index places n)

-- what stands from the place before this end on; nothing if that is 0
abbrev pub from_end : {X : Type 0} → ℕ → List X → List X
from_end zero xs = []
from_end (suc n) xs = drop n xs

-- an entry has a call of this number
abbrev pub has_number : ℕ → DumpEntry → Bool
has_number number e = list_any (nat_eq number) e.numbers
