-- What the entries of a log wrote, in order, and the rows that come of it.
use Rattle.std.specs.Prelude.{ℕ, ◌≡◌, List, [], ◌∷◌, Option, Some, None, IsTrue, map, fold, take, slice_get, option_map, length, nat_lt, if◌then◌else◌}
use Rattle.std.specs.List.{flat_map}
use Rattle.lang_core.specs.Rows.{apply}
use Rattle.lang_core.specs.declared.cells.Cell.{Cell}
use Rattle.lang_core.specs.declared.writes.Write.{Write}
use Rattle.lang_lists.specs.Room.{is_made}
use Rattle.place_order.specs.Labels.{IsNew, place_in}
use Rattle.place_order.specs.Rising.{IsRising}
use Rattle.place_order.specs.Rooms.{call_code as label_code}
use Rattle.place_order.specs.declared.room.OrderCall.{OrderCall}
use Rattle.place_order.specs.declared.room.OrderCall.TheVariants.{Append, InsertBefore}
use Rattle.versioned_rows.specs.Places.{label_of}
use Rattle.versioned_rows.specs.Versions.{call_code, write_call}
use Rattle.versioned_rows.specs.declared.places.PlaceWrites.{PlaceWrites}
use Rattle.versioned_rows.specs.declared.room.VersionsCall.{VersionsCall}

-- the rows before all entries, what each entry wrote, in order, and the room that was made: for labels, and for writes and base rows
pub record KeptWrites : Type 0 where
  pub base : List Cell
  pub writes : List (List Write)
  pub places : List OrderCall
  pub copies : List VersionsCall

-- the rows that these writes make, one after the other, of these rows
abbrev pub rows_made : List Cell → List (List Write) → List Cell
rows_made base writes = fold apply base writes

-- the rows before the entry at a place, or after all where it is past the end
abbrev pub rows_before : ℕ → KeptWrites → List Cell
rows_before place kept = rows_made kept.base (take place kept.writes)

-- the writes of places
abbrev pub writes_of : List PlaceWrites → List (List Write)
writes_of places = map (λ (p : PlaceWrites). p.writes) places

-- no label stands twice
abbrev pub IsApart : List ℕ → Type 0
IsApart [] = Unit {0}
IsApart (x ∷ xs) = IsNew x xs × IsApart xs

-- the places have the labels of the order, each once, in its order
pub record IsPlaced (labels : List ℕ) (places : List PlaceWrites) : Type 0 where
  pub same : map label_of places ≡ labels
  pub apart : IsApart labels
  pub rising : IsRising labels (map label_of places)

-- the label of the entry at a place; none past the end
abbrev pub label_at : ℕ → List PlaceWrites → Option ℕ
label_at place places = option_map label_of (slice_get places place)

-- the call that makes a label before this one, or last where that is the end
abbrev pub call_before : Option ℕ → OrderCall
call_before None = Append
call_before (Some next) = InsertBefore

-- where that label comes to stand
abbrev pub place_before : Option ℕ → List ℕ → ℕ
place_before None labels = length labels
place_before (Some next) labels = place_in labels next

-- the call that makes a label at a place among so many
abbrev pub call_at : ℕ → ℕ → OrderCall
call_at place count = if nat_lt place count then InsertBefore else Append

-- room was made for these writes, in place of others
abbrev pub IsReadyToSet : List Write → KeptWrites → Type 0
IsReadyToSet writes kept = IsTrue (is_made call_code (write_call writes) kept.copies)

-- room was made for these writes at a place between others
pub record IsReadyToInsert (place : ℕ) (writes : List Write) (kept : KeptWrites) : Type 0 where
  pub label : IsTrue (is_made label_code (call_at place (length kept.writes)) kept.places)
  pub copy : IsReadyToSet writes kept

-- the texts that these wrote, one after the other
abbrev pub texts_of : List (List Write) → List (Option (List ℕ))
texts_of writes = flat_map (map (λ (w : Write). w.text)) writes
