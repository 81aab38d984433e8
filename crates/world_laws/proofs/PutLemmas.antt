-- A service in place of the one of its name, whose journal grows.
use Rattle.std.proofs.Common.{◌≡◌, ℕ, zero, suc, cond, List, [], ◌∷◌, Some, All, length, get_or, set, inl, inr, refl, sym, ap, ◌∙◌, subst, arith, one-add, append-nil}
use Rattle.std.specs.List.{position_or_len}
use Rattle.std.proofs.lemmas.Bool.{cases_Bool, cond-true, cond-false}
use Rattle.std.proofs.lemmas.List.Elements.{All-cons, All-head, All-tail}
use Rattle.std.proofs.lemmas.Option.{same_Some}
use Rattle.lang_base.specs.Texts.{same_text}
use Rattle.service_events.specs.State.{Kept, me}
use Rattle.service_events.proofs.CallLaws.{Grows}
use Rattle.world_agreement.specs.Partners.{has_name, service_of, NamesDiffer}
use Rattle.world_events.specs.Worlds.{with_service}

-- the services, with this one in place of the first of this name
abbrev pub put : List ℕ → Kept → List Kept → List Kept
put name t [] = []
put name t (x ∷ xs) = cond (has_name name x) (t ∷ xs) (x ∷ put name t xs)

pub with_is_put : (name : List ℕ) (t : Kept) (xs : List Kept) → with_service name t xs ≡ put name t xs
with_is_put name t [] = refl
with_is_put name t (x ∷ xs) = elim (cases_Bool (has_name name x)) [
  | inl is ↦ rw is refl
  | inr other ↦ rw other (ap (λ k. set (x ∷ xs) k t) (one-add (position_or_len (has_name name) xs)) ∙ ap (λ ys. x ∷ ys) (with_is_put name t xs))
]

-- ---- what grows

abbrev pub grows_same : (s : Kept) → Grows s s
grows_same s = record { rows = []; is = sym (append-nil s.journal); setting = refl }

pub same_name : (s t : Kept) → Grows s t → me t ≡ me s
same_name s t g = ap (λ x. x.me) g.setting

-- each service is there still, and its journal grew
abbrev pub Grew : List Kept → List Kept → Type 0
Grew old new = (name : List ℕ) (x : Kept) → service_of name old ≡ Some x → (y : Kept) × (service_of name new ≡ Some y) × Grows x y

module _ (name : List ℕ) (s t : Kept) (g : Grows s t) where
  named : (n : List ℕ) (x : Kept) → x ≡ s → has_name n t ≡ has_name n x
  named n x is = ap (λ m. same_text m n) (same_name s t g ∙ ap me (sym is))

  pub grew_put : (xs : List Kept) → service_of name xs ≡ Some s → Grew xs (put name t xs)
  grew_put [] here n x found = cc
  grew_put (z ∷ zs) here n x found = elim (cases_Bool (has_name name z)) [
    | inl is ↦ (let it : z ≡ s = same_Some z s (sym (cond-true (has_name name z) (Some z) (service_of name zs) is) ∙ here) in rw is (in_place z zs it n x found))
    | inr other ↦ rw other
        (let behind = sym (cond-false (has_name name z) (Some z) (service_of name zs) other) ∙ here in before z zs n x (λ e. grew_put zs behind n x e) found)
  ]
    where
      in_place : (z : Kept) (zs : List Kept) → z ≡ s → (n : List ℕ) (x : Kept) → cond (has_name n z) (Some z) (service_of n zs) ≡ Some x
          → (y : Kept) × (cond (has_name n t) (Some t) (service_of n zs) ≡ Some y) × Grows x y
      in_place z zs it n x found = elim (cases_Bool (has_name n z)) [
        | inl is ↦ (
          t,
          cond-true (has_name n t) (Some t) (service_of n zs) (named n z it ∙ is),
          subst (λ y. Grows y t) (sym it ∙ same_Some z x (sym (cond-true (has_name n z) (Some z) (service_of n zs) is) ∙ found)) g,
        )
        | inr other ↦ (
          x,
          cond-false (has_name n t) (Some t) (service_of n zs) (named n z it ∙ other)
              ∙ (sym (cond-false (has_name n z) (Some z) (service_of n zs) other) ∙ found),
          grows_same x,
        )
      ]

      before : (z : Kept) (zs : List Kept) (n : List ℕ) (x : Kept) → (service_of n zs ≡ Some x → (y : Kept) × (service_of n (put name t zs) ≡ Some y) × Grows x y)
          → cond (has_name n z) (Some z) (service_of n zs) ≡ Some x
          → (y : Kept) × (cond (has_name n z) (Some z) (service_of n (put name t zs)) ≡ Some y) × Grows x y
      before z zs n x rest found = elim (cases_Bool (has_name n z)) [
        | inl is ↦ (
          x,
          cond-true (has_name n z) (Some z) (service_of n (put name t zs)) is
              ∙ (sym (cond-true (has_name n z) (Some z) (service_of n zs) is) ∙ found),
          grows_same x,
        )
        | inr other ↦ (let later = rest (sym (cond-false (has_name n z) (Some z) (service_of n zs) other) ∙ found) in
            (later.0, cond-false (has_name n z) (Some z) (service_of n (put name t zs)) other ∙ later.1, later.2))
      ]

  -- it is found by its name
  pub found_put : (xs : List Kept) → service_of name xs ≡ Some s → service_of name (put name t xs) ≡ Some t
  found_put [] here = cc
  found_put (z ∷ zs) here = elim (cases_Bool (has_name name z)) [
    | inl is ↦ (let it : z ≡ s = same_Some z s (sym (cond-true (has_name name z) (Some z) (service_of name zs) is) ∙ here) in
        rw is (cond-true (has_name name t) (Some t) (service_of name zs) (named name z it ∙ is)))
    | inr other ↦ rw other
        (cond-false (has_name name z) (Some z) (service_of name (put name t zs)) other
        ∙ found_put zs (sym (cond-false (has_name name z) (Some z) (service_of name zs) other) ∙ here))
  ]

  -- at each place stands the same name
  name_at : (xs : List Kept) → service_of name xs ≡ Some s → (i : ℕ) (d : Kept) → me (get_or (put name t xs) i d) ≡ me (get_or xs i d)
  name_at [] here i d = refl
  name_at (z ∷ zs) here i d = elim (cases_Bool (has_name name z)) [
    | inl is ↦ (let it : z ≡ s = same_Some z s (sym (cond-true (has_name name z) (Some z) (service_of name zs) is) ∙ here) in rw is (in_place z zs it i))
    | inr other ↦ rw other (let behind = sym (cond-false (has_name name z) (Some z) (service_of name zs) other) ∙ here in before z zs (λ k. name_at zs behind k d) i)
  ]
    where
      in_place : (z : Kept) (zs : List Kept) → z ≡ s → (i : ℕ) → me (get_or (t ∷ zs) i d) ≡ me (get_or (z ∷ zs) i d)
      in_place z zs it zero = same_name s t g ∙ ap me (sym it)
      in_place z zs it (suc i) = refl

      before : (z : Kept) (zs : List Kept) → ((k : ℕ) → me (get_or (put name t zs) k d) ≡ me (get_or zs k d)) → (i : ℕ)
          → me (get_or (z ∷ put name t zs) i d) ≡ me (get_or (z ∷ zs) i d)
      before z zs rest zero = refl
      before z zs rest (suc i) = rest i

  length_put : (xs : List Kept) → length (put name t xs) ≡ length xs
  length_put [] = refl
  length_put (z ∷ zs) = elim (cases_Bool (has_name name z)) [
    | inl is ↦ rw is refl
    | inr other ↦ rw other (ap suc (length_put zs))
  ]

  pub differ_put : (xs : List Kept) → service_of name xs ≡ Some s → NamesDiffer xs → NamesDiffer (put name t xs)
  differ_put xs here h i j d l w same =
      let many = length_put xs in
      h i j d l (omega (arith, w, many)) (sym (name_at xs here i d) ∙ same ∙ name_at xs here j d)

-- what holds of each and of the one put in holds of each
pub all_put : (P : Kept → Type 0) (name : List ℕ) (t : Kept) (xs : List Kept) → P t → All P xs → All P (put name t xs)
all_put P name t [] p h = h
all_put P name t (x ∷ xs) p h = elim (cases_Bool (has_name name x)) [
  | inl is ↦ rw is (All-cons P t xs p (All-tail P x xs h))
  | inr other ↦ rw other (All-cons P x (put name t xs) (All-head P x xs h) (all_put P name t xs p (All-tail P x xs h)))
]
