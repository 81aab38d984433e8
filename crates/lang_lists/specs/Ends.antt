-- Where something stands last in a list, by its end: one past its place, or 0 where it is nowhere.
use Rattle.std.specs.Prelude.{ℕ, zero, suc, ◌+◌, Bool, List, [], ◌∷◌, nat_lt, if◌then◌else◌}

-- the end in a list, of whether its first element passes and of the end in what follows
abbrev pub end_behind : Bool → ℕ → ℕ
end_behind passes zero = if passes then 1 else 0
end_behind passes (suc end) = suc (suc end)

-- one past the last element that passes; 0 where none does
abbrev pub last_end : {X : Type 0} → (X → Bool) → List X → ℕ
last_end p [] = 0
last_end p (x ∷ xs) = end_behind (p x) (last_end p xs)

-- an end once one more element has gone in at a place: one more where it lies behind the place
abbrev pub raised : ℕ → ℕ → ℕ
raised at end = if nat_lt at end then end + 1 else end
