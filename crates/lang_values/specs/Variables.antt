-- The variables of a run.
use Rattle.std.specs.Prelude.{ℕ, List, [], ◌∷◌, if◌then◌else◌}
use Rattle.lang_base.specs.Texts.{same_text}
use Rattle.lang_core.specs.declared.value.Value.{Value}
use Rattle.lang_values.specs.declared.given.Binding.{Binding}

-- a variable gets a value
abbrev pub bind : List ℕ → Value → List Binding → List Binding
bind x v [] = record { name = x; value = v } ∷ []
bind x v (b ∷ bs) = if same_text b.name x then record { name = x; value = v } ∷ bs else b ∷ bind x v bs
