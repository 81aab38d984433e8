-- A fold that only elements of one key change, found from the last of them back.
use Rattle.std.proofs.Common.{◌≡◌, ℕ, zero, suc, ◌+◌, ◌-◌, ◌<◌, ◌≤◌, false, List, [], ◌∷◌, length, take, get_or, map, fold, nat_eq, refl, sym, ap, ◌∙◌, subst, arith, add-one, eqb-true, take-suc}
use Rattle.std.proofs.lemmas.List.{length-map, length-take-le, take-take, get_or-take}
use Rattle.std.proofs.lemmas.List.Sums.{fold-append}
use Rattle.lang_lists.specs.Ends.{last_end}
use Rattle.lang_lists.proofs.HashEndLemmas.{last_end-within, last_end-map, last_passes, fold_skips}

map-take : {X : Type 0} (key : X → ℕ) (n : ℕ) (xs : List X) → map key (take n xs) ≡ take n (map key xs)
map-take key zero xs = refl
map-take key (suc n) [] = refl
map-take key (suc n) (x ∷ xs) = ap (λ ys. key x ∷ ys) (map-take key n xs)

get-map : {X : Type 0} (key : X → ℕ) (xs : List X) (n : ℕ) (x : X) → n < length xs → get_or (map key xs) n 0 ≡ key (get_or xs n x)
get-map key [] n x lt = absurd (omega (arith, lt))
get-map key (y ∷ ys) zero x lt = refl
get-map key (y ∷ ys) (suc n) x lt = get-map key ys n x (omega (arith, lt))

-- a step leaves what it is given at each element of another key
pub record IsQuiet {X S : Type 0} (key : X → ℕ) (step : S → X → S) (sought : ℕ) : Type 0 where
  pub stays : (s : S) (x : X) → nat_eq sought (key x) ≡ false → step s x ≡ s

-- what a fold comes to, it comes to up to this end, where an element of the key stands
pub record IsSought {X S : Type 0} (key : X → ℕ) (step : S → X → S) (sought : ℕ) (s : S) (xs : List X) (end : ℕ) : Type 0 where
  pub within : end ≤ length xs
  pub same : fold step s xs ≡ fold step s (take end xs)
  pub keyed : 0 < end → get_or (map key xs) (end - 1) 0 ≡ sought

module _ {X S : Type 0} (key : X → ℕ) (step : S → X → S) (sought : ℕ) (quiet : IsQuiet key step sought) (s : S) where
  sought_at : (xs : List X) → IsSought key step sought s xs (last_end (nat_eq sought) (map key xs))
  sought_at xs =
      let end = last_end (nat_eq sought) (map key xs) in
      let same : last_end (λ x. nat_eq sought (key x)) xs ≡ end = sym (last_end-map (nat_eq sought) key xs) in
      record {
        within = omega (arith, last_end-within (nat_eq sought) (map key xs), length-map xs key);
        same = fold_skips step (λ x. nat_eq sought (key x)) quiet.stays xs s ∙ ap (λ n. fold step s (take n xs)) same;
        keyed = λ some. sym (eqb-true _ _ (last_passes (nat_eq sought) (map key xs) 0 (end - 1) (omega (arith, some))));
      }

  -- the end of the key in all keys
  pub sought_first : (xs : List X) (end : ℕ) → end ≡ last_end (nat_eq sought) (map key xs) → IsSought key step sought s xs end
  sought_first xs end is = let P : ℕ → Type 0 = λ n. IsSought key step sought s xs n in subst P (sym is) (sought_at xs)

  up_to : (xs : List X) (n : ℕ) (x : X) → n < length xs → fold step s (take (n + 1) xs) ≡ step (fold step s (take n xs)) (get_or xs n x)
  up_to xs n x lt = rw (add-one, take-suc xs n x lt) (fold-append step s (take n xs) (get_or xs n x ∷ []))

  -- what it comes to by the element there
  pub sought_here : (xs : List X) (end : ℕ) (x : X) → IsSought key step sought s xs end → 0 < end → x ≡ get_or xs (end - 1) x → fold step s xs ≡ step (fold step s (take (end - 1) xs)) x
  sought_here xs end x at some is =
      let e : end ≡ (end - 1) + 1 = omega arith in
      at.same ∙ ap (λ n. fold step s (take n xs)) e ∙ up_to xs (end - 1) x (omega (arith, at.within)) ∙ ap (step (fold step s (take (end - 1) xs))) (sym is)

  next_at : (xs : List X) (n end : ℕ) → n ≤ length xs → fold step s xs ≡ fold step s (take n xs) → IsSought key step sought s (take n xs) end → IsSought key step sought s xs end
  next_at xs n end le same at =
      let len : length (take n xs) ≡ n = length-take-le n xs le in
      let inner : end ≤ n = omega (arith, at.within) in
      record {
        within = omega (arith, inner, le);
        same = same ∙ at.same ∙ ap (fold step s) (take-take end n xs inner);
        keyed = λ some. keyed_in xs n end le inner some (at.keyed some);
      }
    where
      keyed_in : (xs : List X) (n end : ℕ) → n ≤ length xs → end ≤ n → 0 < end → get_or (map key (take n xs)) (end - 1) 0 ≡ sought → get_or (map key xs) (end - 1) 0 ≡ sought
      keyed_in [] n end le inner some is = absurd (omega (arith, le, inner, some))
      keyed_in (y ∷ ys) n end le inner some is =
          let short : end - 1 < length (take n (y ∷ ys)) = omega (arith, length-take-le n (y ∷ ys) le) in
          get-map key (y ∷ ys) (end - 1) y (omega (arith, le, inner, some))
          ∙ ap key (sym (get_or-take n (y ∷ ys) (end - 1) y (omega (arith, inner, some))))
          ∙ sym (get-map key (take n (y ∷ ys)) (end - 1) y short) ∙ is

  -- where the element there changes nothing, the end of the key before it
  pub sought_next : (xs : List X) (end next : ℕ) (x : X) → IsSought key step sought s xs end → 0 < end → x ≡ get_or xs (end - 1) x
      → step (fold step s (take (end - 1) xs)) x ≡ fold step s (take (end - 1) xs)
      → next ≡ last_end (nat_eq (get_or (map key xs) (end - 1) 0)) (take (end - 1) (map key xs)) → IsSought key step sought s xs next
  sought_next xs end next x at some is stays found =
      let there : next ≡ last_end (nat_eq sought) (map key (take (end - 1) xs)) =
      found ∙ ap (λ k. last_end (nat_eq k) (take (end - 1) (map key xs))) (at.keyed some) ∙ ap (last_end (nat_eq sought)) (sym (map-take key (end - 1) xs)) in
      next_at xs (end - 1) next (omega (arith, at.within)) (sought_here xs end x at some is ∙ stays) (sought_first (take (end - 1) xs) next there)
