-- Keys under which entries are found.
use Rattle.std.specs.Prelude.{◌≡◌, ℕ, List, flat_map, map}
use Rattle.lang_lists.specs.Keys.{call_key}
use Rattle.lang_core.specs.declared.ids.Origin.{Origin}
use Rattle.lang_core.specs.declared.ids.Origin.TheVariants.{Outside, Call}
use Rattle.request_log.specs.declared.entry.Entry.{Entry}
use Rattle.request_log.specs.declared.folded.Folded.{Folded}
use Rattle.request_log.specs.Entries.{IsDistinct, IsLog}
use Rattle.request_log.specs.Folded.{as_entry, whole}

abbrev pub number_of : Entry → ℕ
number_of e = e.id

-- of an origin; an entry from outside has that of its number
abbrev pub origin_key : ℕ → Origin → ℕ
origin_key id Outside = id
origin_key id (Call caller number) = call_key caller number

abbrev pub entry_key : Entry → ℕ
entry_key e = origin_key e.id e.origin

-- a log's folded entries, the others, the numbers of these in order, and the keys of their origins in order
pub record IsIndexed (folded : List Folded) (entries : List Entry) (numbers origins : List ℕ) : Type 0 where
  pub log : IsLog entries
  pub apart : IsDistinct (whole folded entries)
  pub by_number : numbers ≡ map number_of entries
  pub by_origin : origins ≡ map entry_key entries

-- ---- of folded entries

abbrev pub folded_number : Folded → ℕ
folded_number f = f.id

abbrev pub folded_key : Folded → ℕ
folded_key f = origin_key f.id f.origin

-- the registers of all their calls, in order
abbrev pub slots_in : List Folded → List ℕ
slots_in folded = flat_map (λ (f : Folded). f.slots) folded

-- folded entries, their numbers in order, the keys of their origins in order, and the registers of their calls in order
pub record IsFoldedIndexed (folded : List Folded) (numbers origins calls : List ℕ) : Type 0 where
  pub distinct : IsDistinct (map as_entry folded)
  pub by_number : numbers ≡ map folded_number folded
  pub by_origin : origins ≡ map folded_key folded
  pub by_call : calls ≡ slots_in folded
