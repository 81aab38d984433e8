-- What is found in a list, and what holds of each of two lists.
use Rattle.std.proofs.Common.{◌≡◌, ℕ, Bool, true, List, [], ◌∷◌, ◌++◌, Some, find, Contains, nat_eq, refl, sym, ap, ◌∙◌, subst, inl, inr}
use Rattle.std.specs.List.{AllByRecursion}
use Rattle.std.proofs.lemmas.Bool.{cases_Bool, and_parts, eqb-true}
use Rattle.std.proofs.lemmas.List.Elements.{Contains-append_left, Contains-append_right, Contains-push}
use Rattle.lang_base.specs.Texts.{same_text}

pub all_append : {X : Type 0} (P : X → Type 0) (xs ys : List X) → AllByRecursion P xs → AllByRecursion P ys → AllByRecursion P (xs ++ ys)
all_append P [] ys h k = k
all_append P (x ∷ xs) ys h k = (h.0, all_append P xs ys h.1 k)

pub text_is : (a b : List ℕ) → same_text a b ≡ true → a ≡ b
text_is [] [] h = refl
text_is [] (y ∷ ys) h = cc
text_is (x ∷ xs) [] h = cc
text_is (x ∷ xs) (y ∷ ys) h =
    let parts = and_parts (nat_eq x y) (same_text xs ys) h in
    let head : x ≡ y = eqb-true x y parts.0 in
    let rest : xs ≡ ys = text_is xs ys parts.1 in
    cc

-- what is found is there, and passes
pub record IsFound {X : Type 0} (p : X → Bool) (xs : List X) (x : X) : Type 0 where
  pub before : List X
  pub rest : List X
  pub is : xs ≡ before ++ x ∷ rest
  pub passes : p x ≡ true

pub found : {X : Type 0} (p : X → Bool) (xs : List X) (x : X) → find p xs ≡ Some x → IsFound p xs x
found p [] x e = cc
found p (y ∷ ys) x e = elim (cases_Bool (p y)) [
  | inl is ↦ (let here : Some y ≡ Some x = rw is at e in
      let same : y ≡ x = cc in
      record { before = []; rest = ys; is = ap (λ z. z ∷ ys) same; passes = ap p (sym same) ∙ is })
  | inr other ↦ (let s = found p ys x (rw other at e) in
      record { before = y ∷ s.before; rest = s.rest; is = ap (λ zs. y ∷ zs) s.is; passes = s.passes })
]

in_middle : {X : Type 0} (before : List X) (x : X) (rest : List X) → Contains (before ++ x ∷ rest) x
in_middle before x rest = Contains-append_right before (x ∷ rest) x (Contains-append_left (x ∷ []) rest x (Contains-push [] x))

pub found_in : {X : Type 0} (p : X → Bool) (xs : List X) (x : X) → find p xs ≡ Some x → Contains xs x
found_in p xs x e = let f = found p xs x e in subst (λ ys. Contains ys x) (sym f.is) (in_middle f.before x f.rest)
