-- Rows of labels by key.
use Rattle.std.specs.Prelude.{ℕ, ◌≡◌, ◌-◌, Bool, true, false, List, [], Option, None, vec_len, vec_capacity, if◌then◌else◌}
use Rattle.std.specs.List.{find}
use Rattle.std.specs.Option.{option_map_or}
use Rattle.lang_core.specs.Places.{Place, place_of, same_place}
use Rattle.key_labels.specs.declared.rows.KeyLabels.{KeyLabels}

abbrev pub row_place : KeyLabels → Place
row_place r = place_of r.table r.key

-- for how many more labels a row has places
abbrev pub spare_of : KeyLabels → ℕ
spare_of r = vec_capacity r.labels - vec_len r.labels

-- what is said of the row of a key, or of none
abbrev pub held : {X : Type 0} → (KeyLabels → X) → X → List KeyLabels → List ℕ → List ℕ → X
held f none rows t k = option_map_or f (find (λ r. same_place (row_place r) (place_of t k)) rows) none

-- the labels in the row of a key
abbrev pub labels_in : List KeyLabels → List ℕ → List ℕ → List ℕ
labels_in rows t k = held (λ (r : KeyLabels). r.labels.items) [] rows t k

abbrev pub spare_in : List KeyLabels → List ℕ → List ℕ → ℕ
spare_in rows t k = held spare_of 0 rows t k

abbrev pub has_row : List KeyLabels → List ℕ → List ℕ → Bool
has_row rows t k = held (λ _. true) false rows t k

-- the text that stands at a key before all labels
abbrev pub base_in : List KeyLabels → List ℕ → List ℕ → Option (List ℕ)
base_in rows t k = held (λ (r : KeyLabels). r.base) None rows t k

-- each key that had a row still has one
abbrev pub KeepsKeys : List KeyLabels → List KeyLabels → Type 0
KeepsKeys old new = (t k : List ℕ) → has_row old t k ≡ true → has_row new t k ≡ true

-- each key that had a row still has one, and the text before all labels
pub record KeepsRows (old new : List KeyLabels) : Type 0 where
  pub keys : KeepsKeys old new
  pub bases : (t k : List ℕ) → base_in new t k ≡ base_in old t k

-- the row of one key has these labels now, and the others have what they had
abbrev pub IsEdited : List ℕ → List ℕ → List ℕ → List KeyLabels → List KeyLabels → Type 0
IsEdited t k labels old new =
    (u v : List ℕ) → labels_in new u v ≡ (if same_place (place_of t k) (place_of u v) then labels else labels_in old u v)

-- the row of one key has this text before all labels now, and the others have what they had
abbrev pub IsBased : List ℕ → List ℕ → Option (List ℕ) → List KeyLabels → List KeyLabels → Type 0
IsBased t k base old new =
    (u v : List ℕ) → base_in new u v ≡ (if same_place (place_of t k) (place_of u v) then base else base_in old u v)

-- a row of the same key, with the same text before the same labels
pub record IsCopy (row copy : KeyLabels) : Type 0 where
  pub place : row_place copy ≡ row_place row
  pub base : copy.base ≡ row.base
  pub labels : copy.labels.items ≡ row.labels.items
