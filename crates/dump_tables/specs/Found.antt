-- What a search gives.
use Rattle.std.specs.Prelude.{◌≡◌, Bool, true, false, List, Option, Some, None}
use Rattle.std.specs.List.{Contains, list_any}

-- one of these of which the test holds, or none where it holds of none
abbrev pub IsOneOf : {X : Type 0} → (X → Bool) → List X → Option X → Type 0
IsOneOf test xs None = list_any test xs ≡ false
IsOneOf test xs (Some x) = Contains xs x × (test x ≡ true)
