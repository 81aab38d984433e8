-- Places with their writes, and the rows before a place.
use Rattle.std.specs.Prelude.{ℕ, Bool, List, ◌∷◌, ◌++◌, Option, Some, not, fold, filter, map, is_some, option_map, slice_get}
use Rattle.std.specs.List.{find, flat_map, list_any}
use Rattle.lang_core.specs.Places.{Place, place_of, same_place}
use Rattle.lang_core.specs.Rows.{apply, write_place}
use Rattle.lang_core.specs.declared.cells.Cell.{Cell}
use Rattle.lang_core.specs.declared.writes.Write.{Write}
use Rattle.place_order.specs.Rising.{is_before}
use Rattle.key_labels.specs.Labels.{is_other}
use Rattle.versioned_rows.specs.declared.places.PlaceWrites.{PlaceWrites}

abbrev pub label_of : PlaceWrites → ℕ
label_of p = p.label

-- the rows that the writes of these places make, one after the other, of these rows
abbrev pub rows_after : List Cell → List PlaceWrites → List Cell
rows_after base places = fold (λ rows (p : PlaceWrites). apply rows p.writes) base places

-- the places before a label, or all where that is the end
abbrev pub before : List ℕ → Option ℕ → List PlaceWrites → List PlaceWrites
before order end places = filter (λ p. is_before order end (label_of p)) places

-- the places without that of a label
abbrev pub without : ℕ → List PlaceWrites → List PlaceWrites
without label places = filter (λ p. is_other label (label_of p)) places

-- the places with one more, whose label isn't there
abbrev pub with_place : List ℕ → PlaceWrites → List PlaceWrites → List PlaceWrites
with_place order p places =
    filter (λ q. is_before order (Some (label_of p)) (label_of q)) places
    ++ p ∷ filter (λ q. not (is_before order (Some (label_of p)) (label_of q))) places

-- whether one of these stands at the key
abbrev pub is_among : {X : Type 0} → (X → Place) → List ℕ → List ℕ → List X → Bool
is_among place t k xs = is_some (find (λ x. same_place (place x) (place_of t k)) xs)

-- the keys that these write, in order
abbrev pub keys_of : List Write → List Place
keys_of writes = map write_place writes

-- whether these write the key
abbrev pub is_written : List ℕ → List ℕ → List Write → Bool
is_written t k writes = is_among write_place t k writes

-- the labels of the places that write the key
abbrev pub writers : List ℕ → List ℕ → List PlaceWrites → List ℕ
writers t k places = map label_of (filter (λ p. is_written t k p.writes) places)

-- whether one of these places writes the key
abbrev pub is_written_by : List ℕ → List ℕ → List PlaceWrites → Bool
is_written_by t k places = list_any (λ (p : PlaceWrites). is_written t k p.writes) places

-- the texts that these places wrote, one after the other
abbrev pub texts_of : List PlaceWrites → List (Option (List ℕ))
texts_of places = flat_map (λ (p : PlaceWrites). map (λ (w : Write). w.text) p.writes) places

-- the label of the place behind so many; none where that is the end
abbrev pub label_behind : ℕ → List PlaceWrites → Option ℕ
label_behind n places = option_map label_of (slice_get places n)
