-- What a repairer keeps, and which changes of an entry an event may make.
use Rattle.std.specs.Prelude.{ℕ, ◌≡◌, List, ◌++◌, Option, drop, filter_map, find, take, IsSomeAnd, option_map}
use Rattle.std.specs.List.{HoldsAt}
use Rattle.lang_core.specs.declared.cells.Cell.{Cell}
use Rattle.request_log.specs.Entries.{has_id}
use Rattle.request_log.specs.Folded.{folded_as}
use Rattle.request_log.specs.declared.entry.Entry.{Entry}
use Rattle.request_log.specs.declared.folded.Folded.{Folded}
use Rattle.local_repair.specs.Current.{Consumed, IsFirstStale, rows_after}
use Rattle.local_repair.specs.Tests.{first_stale}

-- what a repairer keeps: its folded entries, the rows that they left, and its other entries
pub record KeptRepairer : Type 0 where
  pub folded : List Folded
  pub base : List Cell
  pub entries : List Entry

-- so many of the first entries were folded: the rows that they leave stand before the others
pub record IsFolded (n : ℕ) (old new : KeptRepairer) : Type 0 where
  pub entries : new.entries ≡ drop n old.entries
  pub folded : new.folded ≡ old.folded ++ filter_map folded_as (take n old.entries)
  pub base : new.base ≡ rows_after old.base (take n old.entries)

-- at most the version, the request, and whether it is wanted and struck are others
abbrev pub Amends : Entry → Entry → Type 0
Amends old new =
    new ≡ record old { version = new.version; request = new.request; wanted = new.wanted; struck = new.struck }

-- the entry of its number is there, and this one amends it
abbrev pub IsAmended : Entry → List Entry → Type 0
IsAmended entry entries = IsSomeAnd (find (has_id entry.id) entries) (λ old. Amends old entry)

-- the first stale entry, wherever it stands, has this number
pub record IsStaleId (consumed : Consumed) (base : List Cell) (entries : List Entry) (id : ℕ) : Type 0 where
  pub place : ℕ
  pub first : IsFirstStale consumed base entries place
  pub names : HoldsAt (λ e. e.id ≡ id) entries place

-- the number of the first stale entry, by the test
abbrev pub stale_id : Consumed → List Cell → List Entry → Option ℕ
stale_id consumed base entries = option_map (λ (e : Entry). e.id) (first_stale consumed base entries)
