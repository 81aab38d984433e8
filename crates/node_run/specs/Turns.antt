-- Turns of a worker, one behind another.
use Rattle.std.specs.Prelude.{◌≡◌, List, [], ◌∷◌}

-- each is such a one; these are the states behind each
abbrev pub TurnsBy : {S : Type 0} → (S → S → Type 0) → List S → S → S → Type 0
TurnsBy Turn [] before now = now ≡ before
TurnsBy Turn (next ∷ rest) before now = Turn before next × TurnsBy Turn rest next now

-- nothing but such turns
abbrev pub Turns : {S : Type 0} → (S → S → Type 0) → S → S → Type 0
Turns {S} Turn before now = (states : List S) × TurnsBy Turn states before now
