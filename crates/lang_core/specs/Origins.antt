-- Where requests come from.
use Rattle.std.specs.Prelude.{ℕ, Bool, false, ◌&&◌, List, nat_eq}
use Rattle.lang_tree.specs.HandedOn.{same_text}
use Rattle.lang_core.specs.declared.ids.Origin.{Origin}
use Rattle.lang_core.specs.declared.ids.Origin.TheVariants.{Outside, Call}

-- the origin is this call: that of this number of this caller
abbrev pub is_call : List ℕ → ℕ → Origin → Bool
is_call caller number Outside = false
is_call caller number (Call c n) = same_text c caller && nat_eq n number
