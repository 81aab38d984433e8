-- What is of one row has one key, and is found along what has that key.
use Rattle.std.proofs.Common.{◌≡◌, ◌+◌, ◌<◌, ℕ, zero, suc, Bool, true, false, ◌&&◌, ◌||◌, List, [], ◌∷◌, ◌++◌, Some, fold, length, map, take, get_or, nat_eq, slice_get, refl, sym, ap, ◌∙◌, subst, add-one, eq-eqb, eqb-true, take-suc}
use Rattle.std.proofs.lemmas.Bool.{and_parts}
use Rattle.std.specs.Cmp.Lexicographic.{bytes_decides}
use Rattle.lang_base.specs.Texts.{same_text}
use Rattle.lang_lists.proofs.KeyLemmas.{call_other}
use Rattle.lang_lists.proofs.SearchLemmas.{IsQuiet}
use Rattle.node_core.specs.Closings.{row_key, SameRow}

unless_true : (b : Bool) → (b ≡ true → ⊥) → b ≡ false
unless_true true h = absurd (h refl)
unless_true false h = refl

both_pass : (a b : Bool) → a ≡ true → b ≡ true → (a && b) ≡ true
both_pass true b h g = g
both_pass false b h g = cc

or_none : (found b : Bool) → b ≡ false → (found || b) ≡ found
or_none true b h = refl
or_none false b h = h

right_false : (a b : Bool) → (a || b) ≡ false → b ≡ false
right_false true b h = cc
right_false false b h = h

map-push : {A : Type 0} (key : A → ℕ) (rs : List A) (x : A) → map key (rs ++ x ∷ []) ≡ map key rs ++ key x ∷ []
map-push key [] x = refl
map-push key (r ∷ rs) x = ap (λ ks. key r ∷ ks) (map-push key rs x)

module _ {A : Type 0} (service : A → List ℕ) (index : A → ℕ) where
  abbrev IsSame : A → A → Type 0
  IsSame r t = SameRow service index r t

  -- ---- the test

  abbrev same_row : A → A → Bool
  same_row r t = same_text (service r) (service t) && nat_eq (index r) (index t)

  tested : (r t : A) → same_row r t ≡ true → IsSame r t
  tested r t is =
      let parts = and_parts (same_text (service r) (service t)) (nat_eq (index r) (index t)) is in
      ((bytes_decides (service r) (service t)).0 parts.0, eqb-true (index r) (index t) parts.1)

  passes : (r t : A) → IsSame r t → same_row r t ≡ true
  passes r t same =
      both_pass (same_text (service r) (service t)) (nat_eq (index r) (index t)) ((bytes_decides (service r) (service t)).1 same.0) (eq-eqb (index r) (index t) same.1)

  -- ---- whether one of them is of this one's row

  abbrev pub or_same : A → Bool → A → Bool
  or_same x found r = found || same_row r x

  pub same_quiet : (x : A) → IsQuiet (row_key service index) (or_same x) (row_key service index x)
  same_quiet x = record { stays = λ found r differs. or_none found (same_row r x) (call_other (service x) (service r) (index x) (index r) differs) }

  pub same_passed : (x : A) (found : Bool) (r : A) → ¬ IsSame r x → or_same x found r ≡ found
  same_passed x found r differs = or_none found (same_row r x) (unless_true (same_row r x) (λ is. differs (tested r x is)))

  or_stays : (x : A) (rs : List A) → fold (or_same x) true rs ≡ true
  or_stays x [] = refl
  or_stays x (r ∷ rs) = or_stays x rs

  false_before : (x : A) (found : Bool) (rs : List A) → fold (or_same x) found rs ≡ false → found ≡ false
  false_before x true rs h = (let stays = or_stays x rs in cc)
  false_before x false rs h = refl

  pub none_same : (x : A) (found : Bool) (rs : List A) → fold (or_same x) found rs ≡ false → (k : ℕ) (r : A) → slice_get rs k ≡ Some r → ¬ IsSame r x
  none_same x found [] h k r there = cc
  none_same x found (y ∷ rs) h zero r there =
      λ same.
      let here : y ≡ r = cc in
      let fails : same_row y x ≡ false = right_false found (same_row y x) (false_before x (found || same_row y x) rs h) in
      let is : same_row y x ≡ true = passes y x (subst (λ (t : A). IsSame t x) (sym here) same) in
      cc
  none_same x found (y ∷ rs) h (suc k) r there = none_same x (found || same_row y x) rs h k r there

  -- ---- their keys

  -- those of one more
  pub keys_more : (rs : List A) (i : ℕ) (x : A) → x ≡ get_or rs i x → i < length rs
      → map (row_key service index) (take i rs) ++ row_key service index x ∷ [] ≡ map (row_key service index) (take (i + 1) rs)
  keys_more rs i x is within =
      sym
      (ap (map (row_key service index)) (rw (add-one, take-suc rs i x within) refl) ∙ map-push (row_key service index) (take i rs) (get_or rs i x)
      ∙ ap (λ (t : A). map (row_key service index) (take i rs) ++ row_key service index t ∷ []) (sym is))
