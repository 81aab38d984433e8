-- Values under names.
use Rattle.std.specs.Prelude.{ℕ, Bool, List, [], ◌∷◌, ◌++◌, Option, find, map, option_map, if◌then◌else◌}
use Rattle.std.specs.List.{IsDistinct}
use Rattle.lang_base.specs.Texts.{same_text}
use Rattle.wire_fields.specs.declared.named.Named.{Named}

abbrev pub name_in : {T : Type 0} → Named T → List ℕ
name_in item = item.name

-- no two of the names are the same
abbrev pub AreApart : {T : Type 0} → List (Named T) → Type 0
AreApart list = IsDistinct same_text (map name_in list)

-- it stands under this name
abbrev pub has_name : {T : Type 0} → List ℕ → Named T → Bool
has_name name item = same_text item.name name

-- the value under a name
abbrev pub value_of : {T : Type 0} → List ℕ → List (Named T) → Option T
value_of name list = option_map (λ item. item.value) (find (has_name name) list)

-- the list with one more, if it is added
abbrev pub with_one : {T : Type 0} → Bool → List (Named T) → List ℕ → T → List (Named T)
with_one added list name value = if added then list ++ record { name = name; value = value } ∷ [] else list
