-- Rows of labels as they are kept: each in the slot in which it came, and the numbers of the slots in the order of the rows' keys.
use Rattle.std.specs.Prelude.{ℕ, ◌≡◌, ◌<◌, ◌≤◌, Bool, false, List, [], ◌∷◌, ◌++◌, length, option_to_list, slice_get, slice_index, slice_index_or}
use Rattle.std.specs.List.{AllByRecursion}
use Rattle.std.specs.Option.{option_map_or}
use Rattle.std.specs.declared.cmp.Ordering.TheVariants.{Less, Greater}
use Rattle.std.specs.Ordering.{is_gt}
use Rattle.lang_core.specs.Places.{Place, place_order, rank, is_taken}
use Rattle.key_labels.specs.Rows.{row_place}
use Rattle.key_labels.specs.Labels.{IsApart}
use Rattle.key_labels.specs.declared.rows.KeyLabels.{KeyLabels}

-- what contracts see of rows: the rows in the order of their keys
pub record KeptRows : Type 0 where
  pub items : List KeyLabels

-- what stands in the slots of these numbers, one after the other
abbrev pub in_order : {X : Type 0} → List ℕ → List X → List X
in_order [] slots = []
in_order (n ∷ ns) slots = option_to_list (slice_get slots n) ++ in_order ns slots

-- these are the numbers of so many slots, each once
pub record IsArranged (count : ℕ) (order : List ℕ) : Type 0 where
  pub within : AllByRecursion (λ n. n < count) order
  pub apart : IsApart order
  pub each : (n : ℕ) → n < count → (i : ℕ) × (i < length order) × (slice_index order i ≡ n)

-- a key is sought between two places: the rows before the first are below it, and those from the second on above it
pub record IsSought (p : Place) (rows : List KeyLabels) (low high : ℕ) : Type 0 where
  pub front : (k : ℕ) (d : KeyLabels) → k < low → place_order p (row_place (slice_index_or rows k d)) ≡ Greater
  pub rest : (k : ℕ) (d : KeyLabels) → high ≤ k → k < length rows → place_order p (row_place (slice_index_or rows k d)) ≡ Less

-- the row of a key stands in a slot
pub record IsSlotOf (p : Place) (slots : List KeyLabels) (slot : ℕ) : Type 0 where
  pub within : slot < length slots
  pub place : (d : KeyLabels) → row_place (slice_index_or slots slot d) ≡ p

-- the row in a slot stands before a place
abbrev pub is_slot_below : Place → List KeyLabels → ℕ → Bool
is_slot_below p slots slot = option_map_or (λ r. is_gt (place_order p (row_place r))) (slice_get slots slot) false

-- no row stands at a key, and one would stand at this place among these
pub record IsFreeAt (p : Place) (rows : List KeyLabels) (at : ℕ) : Type 0 where
  pub within : at ≤ length rows
  pub rank : at ≡ rank row_place p rows
  pub free : is_taken row_place p rows ≡ false
