-- What is of different rows.
use Rattle.std.proofs.Common.{◌≡◌, ◌+◌, ◌<◌, ℕ, List, Some, length, take, get_or, slice_get, refl, sym, ◌∙◌, subst, arith, inl, inr}
use Rattle.std.proofs.lemmas.Bool.{cases_lt}
use Rattle.std.proofs.lemmas.List.{get_or-take, length-take}
use Rattle.std.proofs.lemmas.Option.{get_or_from_slice_get, slice_get_read}
use Rattle.node_core.specs.Closings.{SameRow}

module _ {A : Type 0} (service : A → List ℕ) (index : A → ℕ) where
  -- the first so many are of different rows
  abbrev pub ApartBelow : ℕ → List A → Type 0
  ApartBelow i xs =
      (at other : ℕ) (r t : A) → at < i → other < i → slice_get xs at ≡ Some r → slice_get xs other ≡ Some t → SameRow service index r t → at ≡ other

  pub apart_more : (xs : List A) (i : ℕ) (x : A) → x ≡ get_or xs i x → i < length xs → ApartBelow i xs
      → ((k : ℕ) (r : A) → k < i → slice_get xs k ≡ Some r → ¬ SameRow service index r x) → ApartBelow (i + 1) xs
  apart_more xs i x is within apart none at other r t a b here there same =
      let read : slice_get xs i ≡ Some x = slice_get_read xs (length xs) i x refl within is in
      elim (cases_lt at i) [
        | inl first ↦ elim (cases_lt other i) [
          | inl second ↦ apart at other r t first second here there same
          | inr past ↦
              let last : other ≡ i = omega (arith, b, past) in
              let found : slice_get xs i ≡ Some t = subst (λ n. slice_get xs n ≡ Some t) last there in
              let equal : t ≡ x = cc in
              absurd (none at r first here (subst (λ (u : A). SameRow service index r u) equal same))
        ]
        | inr past ↦
            let place : at ≡ i = omega (arith, a, past) in
            let found : slice_get xs i ≡ Some r = subst (λ n. slice_get xs n ≡ Some r) place here in
            let equal : r ≡ x = cc in
            elim (cases_lt other i) [
              | inl second ↦
                  let back : SameRow service index t r = (sym same.0, sym same.1) in
                  absurd (none other t second there (subst (λ (u : A). SameRow service index t u) equal back))
              | inr also ↦ omega (arith, b, also, place)
            ]
      ]

-- what stands before a place stands in the front up to there
pub in_front : {A : Type 0} (xs : List A) (i k : ℕ) (x : A) → k < i → i < length xs → slice_get xs k ≡ Some x → slice_get (take i xs) k ≡ Some x
in_front xs i k x less within there =
    slice_get_read (take i xs) (length (take i xs)) k x refl (omega (arith, less, within, length-take i xs))
    (sym (get_or-take i xs k x less ∙ get_or_from_slice_get xs k x x there))
