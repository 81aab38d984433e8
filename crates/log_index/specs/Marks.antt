-- Where the reads of entries looked, and which entries are marked.
use Rattle.std.specs.Prelude.{ℕ, ◌+◌, ◌-◌, ◌<◌, ◌≡◌, Bool, not, ◌&&◌, ◌||◌, List, [], ◌∷◌, ◌++◌, IsTrue, nat_eq, nat_lt, length, map, filter, slice_index_or, if◌then◌else◌}
use Rattle.std.specs.List.{All, Contains, list_any}
use Rattle.lang_base.specs.Equal.{equal}
use Rattle.lang_lists.specs.Room.{is_made}
use Rattle.lang_core.specs.contracts.writes.Write as write
use Rattle.lang_core.specs.declared.trace.Read.{Read}
use Rattle.lang_core.specs.declared.writes.Write.{Write}
use Rattle.place_order.specs.Labels.{place_in}
use Rattle.dependency_index.specs.Index.{call_code as note_code, note_call}
use Rattle.dependency_index.specs.Numbers.{Rises}
use Rattle.dependency_index.specs.Reads.{is_at, is_scan_of, label_of}
use Rattle.dependency_index.specs.declared.noted.Noted.{Noted}
use Rattle.dependency_index.specs.declared.reads.ReadAt.{ReadAt}
use Rattle.dependency_index.specs.declared.reads.ReadKind.TheVariants.{Key}
use Rattle.dependency_index.specs.declared.room.IndexCall.{IndexCall}
use Rattle.log_index.specs.Rows.{IsApart}
use Rattle.log_index.specs.Places.{KeptPlaces, HasPlace}

-- by the places of the entries: where the reads of each looked, and the places of those that are marked, rising; and the
-- room that was made: for labels, for reads, and for so many marks
pub record KeptMarks : Type 0 where
  pub reads : List (List ReadAt)
  pub marks : List ℕ
  pub places : KeptPlaces
  pub notes : List IndexCall
  pub spots : ℕ

-- marks, and for how many there are places
pub record Marked : Type 0 where
  pub items : List ℕ
  pub spots : ℕ

-- the place is one of these marks
abbrev pub is_marked : ℕ → List ℕ → Bool
is_marked place marks = list_any (nat_eq place) marks

-- the reads that were noted under a label
abbrev pub reads_under : List Noted → ℕ → List ReadAt
reads_under [] label = []
reads_under (n ∷ ns) label = (if nat_eq (label_of n) label then n.reads else []) ++ reads_under ns label

-- those of each of these labels
abbrev pub reads_by : List Noted → List ℕ → List (List ReadAt)
reads_by noted labels = map (reads_under noted) labels

-- a read of the key, or a scan under a prefix of it
abbrev pub looks_at : List ℕ → List ℕ → ReadAt → Bool
looks_at t k r = is_at Key t k r || is_scan_of t k r

-- one of these reads looks at a cell of these writes
abbrev pub sees : List Write → List ReadAt → Bool
sees writes reads = list_any (λ (w : Write). list_any (looks_at w.table w.key) reads) writes

-- a write is one of these
abbrev pub is_among : List Write → Write → Bool
is_among writes w = list_any (equal write.the_row.coded w) writes

-- those of these writes that aren't among the others
abbrev pub lacking : List Write → List Write → List Write
lacking others writes = filter (λ w. not (is_among others w)) writes

-- the writes of two lists that only one of them has
abbrev pub changes : List Write → List Write → List Write
changes old new = lacking new old ++ lacking old new

-- one write each, of the same key
abbrev pub IsOneKey : List Write → List Write → Type 0
IsOneKey (v ∷ []) (w ∷ []) = (v.table ≡ w.table) × (v.key ≡ w.key)
IsOneKey vs ws = ⊥

-- the entry behind a place looks at a cell of these writes
abbrev pub sees_behind : ℕ → List Write → List (List ReadAt) → ℕ → Bool
sees_behind place writes reads q = nat_lt place q && sees writes (slice_index_or reads q [])

-- these marks rise, and each is one of so many places
pub record AreMarks (count : ℕ) (marks : List ℕ) : Type 0 where
  pub rising : Rises marks
  pub within : All (λ q. q < count) marks

-- no label stands twice, reads are noted under labels that are there, and places that are there are marked
pub record IsNoted (labels : List ℕ) (noted : List Noted) (marks : List ℕ) : Type 0 where
  pub apart : IsApart labels
  pub known : All (Contains labels) (map label_of noted)
  pub are : AreMarks (length labels) marks

-- where these labels stand, of those behind a place
abbrev pub places_behind : List ℕ → ℕ → List ℕ → List ℕ
places_behind labels place found = filter (nat_lt place) (map (place_in labels) found)

-- where a mark stands once something was put in at a place
abbrev pub shifted : ℕ → ℕ → ℕ
shifted place q = if nat_lt q place then q else q + 1

-- where a mark stands once so many places before it are gone
abbrev pub lowered : ℕ → ℕ → ℕ
lowered n q = q - n

-- room was made for an entry of these reads at a place
pub record IsReadyToInsert (place : ℕ) (reads : List Read) (kept : KeptMarks) : Type 0 where
  pub label : HasPlace place kept.places
  pub note : IsTrue (is_made note_code (note_call reads) kept.notes)
  pub spot : length kept.reads < kept.spots

-- room was made for these reads, in place of others
abbrev pub IsReadyToSet : List Read → KeptMarks → Type 0
IsReadyToSet reads kept = IsTrue (is_made note_code (note_call reads) kept.notes)
