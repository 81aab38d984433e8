-- Lists of what stands at a table and a key, in order, with no place twice.
use Rattle.std.specs.Prelude.{ℕ, suc, ◌≤◌, ◌<◌, ◌≡◌, Bool, true, false, ◌&&◌, List, [], ◌∷◌, if◌then◌else◌}
use Rattle.std.specs.declared.cmp.Ordering.{Ordering}
use Rattle.std.specs.declared.cmp.Ordering.TheVariants.{Less, Equal, Greater}
use Rattle.std.specs.Ordering.{ordering_then}
use Rattle.lang_tree.specs.HandedOn.{same_text, text_order}

-- a place in the rows
pub record Place : Type 0 where
  pub table : List ℕ
  pub key : List ℕ

abbrev pub place_of : List ℕ → List ℕ → Place
place_of t k = record { table = t; key = k }

-- the order of two places: by table, and then by key
abbrev pub place_order : Place → Place → Ordering
place_order p q = ordering_then (text_order p.table q.table) (text_order p.key q.key)

abbrev pub same_place : Place → Place → Bool
same_place p q = same_text p.table q.table && same_text p.key q.key

-- a place is below those of each of these
abbrev pub IsBelowAll : {X : Type 0} → (X → Place) → Place → List X → Type 0
IsBelowAll place p [] = Unit {0}
IsBelowAll place p (x ∷ xs) = (place_order p (place x) ≡ Less) × IsBelowAll place p xs

-- in the order of their places, no place twice
abbrev pub IsOrdered : {X : Type 0} → (X → Place) → List X → Type 0
IsOrdered place [] = Unit {0}
IsOrdered place (x ∷ xs) = IsBelowAll place (place x) xs × IsOrdered place xs

abbrev pub by_order : {X : Type 0} → Ordering → X → X → X → X
by_order Less a b c = a
by_order Equal a b c = b
by_order Greater a b c = c

-- with this at its place, in place of what stood there
abbrev pub set_in : {X : Type 0} → (X → Place) → X → List X → List X
set_in place x [] = x ∷ []
set_in place x (y ∷ ys) =
    by_order (place_order (place x) (place y)) (x ∷ y ∷ ys) (x ∷ ys) (y ∷ set_in place x ys)

-- with nothing at that place
abbrev pub unset_in : {X : Type 0} → (X → Place) → Place → List X → List X
unset_in place p [] = []
unset_in place p (y ∷ ys) = by_order (place_order p (place y)) (y ∷ ys) ys (y ∷ unset_in place p ys)

-- how many at the front are below the place
abbrev pub rank : {X : Type 0} → (X → Place) → Place → List X → ℕ
rank place p [] = 0
rank place p (y ∷ ys) = by_order (place_order p (place y)) 0 0 (suc (rank place p ys))

-- whether something stands at the place
abbrev pub is_taken : {X : Type 0} → (X → Place) → Place → List X → Bool
is_taken place p [] = false
is_taken place p (y ∷ ys) = by_order (place_order p (place y)) false true (is_taken place p ys)

-- where the list goes on after that rank
abbrev pub past : Bool → ℕ → ℕ
past taken n = if taken then suc n else n

-- a rank in a list of that length
pub record IsRank (n : ℕ) (taken : Bool) (len : ℕ) : Type 0 where
  pub within : n ≤ len
  pub there : taken ≡ true → n < len
