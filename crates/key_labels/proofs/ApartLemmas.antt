-- Labels that differ, and where one of them stands.
use Rattle.std.proofs.Common.{◌≡◌, ℕ, suc, ◌+◌, ◌<◌, ◌≤◌, Bool, true, false, not, cond, List, [], ◌∷◌, Some, None, nat_eq, nat_lt, length, map, position, refl, sym, ap, subst, arith, eqb-true}
use Rattle.std.specs.List.{filter, remove, AllByRecursion, position_or_len}
use Rattle.std.proofs.lemmas.Bool.{ltb-true, ltb-false, ne_eqb}
use Rattle.place_order.specs.Labels.{place_in}
use Rattle.place_order.specs.Rising.{IsBeforeAll, IsRising}
use Rattle.key_labels.specs.Labels.{is_other, IsApart}

-- a position that was found
pub position_is : {X : Type 0} (p : X → Bool) (xs : List X) (at : ℕ) → position p xs ≡ Some at → (at ≡ position_or_len p xs) × (at < length xs)
position_is p xs at h = by (nat_lt (position_or_len p xs) (length xs)) refl h
  where
    by : (b : Bool) → nat_lt (position_or_len p xs) (length xs) ≡ b → cond b (Some (position_or_len p xs)) None ≡ Some at → (at ≡ position_or_len p xs) × (at < length xs)
    by true e h = let same : position_or_len p xs ≡ at = cc in let lt = ltb-true (position_or_len p xs) (length xs) e in (sym same, omega arith)
    by false e h = cc

-- where all are others, nothing goes
pub all_others : (label : ℕ) (xs : List ℕ) → AllByRecursion (λ y. nat_eq y label ≡ false) xs → filter (is_other label) xs ≡ xs
all_others label [] all = refl
all_others label (x ∷ xs) all = let here = all.0 in rw here (ap (λ l. x ∷ l) (all_others label xs all.1))

others_stay : {X : Type 0} (f : X → ℕ) (label : ℕ) (ps : List X) → AllByRecursion (λ y. nat_eq y label ≡ false) (map f ps) → filter (λ p. is_other label (f p)) ps ≡ ps
others_stay f label [] all = refl
others_stay f label (p ∷ ps) all = let here = all.0 in rw here (ap (λ l. p ∷ l) (others_stay f label ps all.1))

pub apart_from : (a b : ℕ) (xs : List ℕ) → a ≡ b → AllByRecursion (λ y. nat_eq y a ≡ false) xs → AllByRecursion (λ y. nat_eq y b ≡ false) xs
apart_from a b xs e all = let P : ℕ → Type 0 = λ n. AllByRecursion (λ y. nat_eq y n ≡ false) xs in subst P e all

module _ {X : Type 0} (f : X → ℕ) (label : ℕ) where
  removed_by : (p : X) (ps : List X) (b : Bool) → nat_eq (f p) label ≡ b → IsApart (map f (p ∷ ps))
      → (b ≡ false → remove ps (position_or_len (λ q. nat_eq (f q) label) ps) ≡ filter (λ q. is_other label (f q)) ps)
      → remove (p ∷ ps) (cond (not b) (1 + position_or_len (λ q. nat_eq (f q) label) ps) 0) ≡ cond (not b) (p ∷ filter (λ q. is_other label (f q)) ps) (filter (λ q. is_other label (f q)) ps)
  removed_by p ps true e apart more = sym (others_stay f label ps (apart_from (f p) label (map f ps) (eqb-true (f p) label e) apart.0))
  removed_by p ps false e apart more =
      let n : 1 + position_or_len (λ q. nat_eq (f q) label) ps ≡ suc (position_or_len (λ q. nat_eq (f q) label) ps) = omega arith in
      rw n (ap (λ l. p ∷ l) (more refl))

  -- of what has labels that differ, the one of a label is taken out where it stands
  pub removed : (ps : List X) → IsApart (map f ps) → remove ps (position_or_len (λ q. nat_eq (f q) label) ps) ≡ filter (λ q. is_other label (f q)) ps
  removed [] apart = refl
  removed (p ∷ ps) apart = removed_by p ps (nat_eq (f p) label) refl apart (λ _. removed ps apart.1)

  named_by : (p : X) (ps : List X) (b : Bool) → nat_eq (f p) label ≡ b
      → suc (length ps) ≤ cond (not b) (1 + position_or_len (λ q. nat_eq (f q) label) ps) 0
      → (length ps ≤ position_or_len (λ q. nat_eq (f q) label) ps → AllByRecursion (λ y. nat_eq y label ≡ false) (map f ps))
      → AllByRecursion (λ y. nat_eq y label ≡ false) (map f (p ∷ ps))
  named_by p ps true e le more = absurd (omega arith)
  named_by p ps false e le more = (e, more (omega arith))

  none_named : (ps : List X) → length ps ≤ position_or_len (λ q. nat_eq (f q) label) ps → AllByRecursion (λ y. nat_eq y label ≡ false) (map f ps)
  none_named [] le = tt
  none_named (p ∷ ps) le = named_by p ps (nat_eq (f p) label) refl le (none_named ps)

  none_by : (ps : List X) (b : Bool) → nat_lt (position_or_len (λ q. nat_eq (f q) label) ps) (length ps) ≡ b → cond b (Some (position_or_len (λ q. nat_eq (f q) label) ps)) None ≡ None
      → AllByRecursion (λ y. nat_eq y label ≡ false) (map f ps)
  none_by ps true e h = cc
  none_by ps false e h = none_named ps (ltb-false (position_or_len (λ q. nat_eq (f q) label) ps) (length ps) e)

  pub not_there : (ps : List X) → position (λ q. nat_eq (f q) label) ps ≡ None → ps ≡ filter (λ q. is_other label (f q)) ps
  not_there ps h = sym (others_stay f label ps (none_by ps (nat_lt (position_or_len (λ q. nat_eq (f q) label) ps) (length ps)) refl h))

later_apart : (order : List ℕ) (x : ℕ) (ys : List ℕ) → IsBeforeAll order x ys → AllByRecursion (λ y. nat_eq y x ≡ false) ys
later_apart order x [] all = tt
later_apart order x (y ∷ ys) all = (ne_eqb y x (λ e. let same = ap (place_in order) e in let lt = all.0 in omega arith), later_apart order x ys all.1)

-- labels that rise differ
pub rising_apart : (order xs : List ℕ) → IsRising order xs → IsApart xs
rising_apart order [] r = tt
rising_apart order (x ∷ xs) r = (later_apart order x xs r.1, rising_apart order xs r.2)
