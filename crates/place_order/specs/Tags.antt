-- Tags: numbers by label that rise along a list of labels.
use Rattle.std.specs.Prelude.{ℕ, ◌+◌, ◌*◌, ◌<◌, ◌≤◌, List, nat_lt, length, slice_index, if◌then◌else◌}

-- the tag of a label
abbrev pub tag_of : List ℕ → ℕ → ℕ
tag_of tags label = slice_index tags label

-- the tag of the label that stands at a place
abbrev pub tag_at : List ℕ → List ℕ → ℕ → ℕ
tag_at labels tags place = tag_of tags (slice_index labels place)

-- each label has a tag, and along the list these rise
pub record IsTagged (labels tags : List ℕ) : Type 0 where
  pub few : length labels ≤ 100000
  pub known : (i : ℕ) → i < length labels → slice_index labels i < length tags
  pub rising : (i j : ℕ) → i < j → j < length labels → tag_at labels tags i < tag_at labels tags j

-- a tag fits a gap: it is above those of all labels before it, and below all others
pub record IsBetween (labels tags : List ℕ) (gap tag : ℕ) : Type 0 where
  pub above : (i : ℕ) → i < gap → tag_at labels tags i < tag
  pub below : (i : ℕ) → gap ≤ i → i < length labels → tag < tag_at labels tags i

-- tags at equal distances, of which one is left out
abbrev pub even_tag : ℕ → ℕ → ℕ
even_tag gap place =
    if nat_lt place gap then 4611686018427387904 + 35184372088832 * place else 4611686018427387904 + 35184372088832 * (place + 1)
