-- Room made in advance: the list of calls for which memory is there.
use Rattle.std.specs.Prelude.{◌≡◌, ℕ, Bool, List, [], ◌++◌, Option, Some, None, position}
use Rattle.std.specs.List.{list_any, remove}
use Rattle.lang_base.specs.Equal.{equal}
use base.Stored.{Coded}

-- room was made for this call
abbrev pub is_made : {C : Type 0} → Coded C → C → List C → Bool
is_made code call room = list_any (equal code call) room

abbrev pub without : {C : Type 0} → List C → Option ℕ → List C
without room None = []
without room (Some place) = remove room place

-- what is left after this call: it uses its room up, and where it had none, none is left
abbrev pub spend : {C : Type 0} → Coded C → C → List C → List C
spend code call room = without room (position (equal code call) room)

-- the last room that was made is for these calls
pub record IsReady {C : Type 0} (calls room : List C) : Type 0 where
  pub before : List C
  pub is : room ≡ before ++ calls
