-- Lists: what is in them, which names and numbers, and where two of them are cut alike.
use Rattle.std.proofs.Common.{◌≡◌, ℕ, ◌+◌, Bool, true, false, cond, List, [], ◌∷◌, ◌++◌, length, map, filter, Some, find, ◌⊎◌, inl, inr, refl, sym, ap, ◌∙◌, subst, arith, true≢false}
use Rattle.std.proofs.lemmas.Bool.{cases_Bool}
use Rattle.std.specs.Cmp.Lexicographic.{nat_list_eq_equiv}
use Rattle.std.specs.List.{AllByRecursion}
use Rattle.lang_base.specs.Texts.{same_text}
use Rattle.lang_core.specs.declared.ids.RequestId.{RequestId}
use Rattle.execution.specs.Executions.{Act}
use Rattle.handler_chains.proofs.Finding.{text_is}
use Rattle.one_world.specs.Certificates.{AreApart, numbers_at}

-- it is one of these
abbrev pub Has : {X : Type 0} → X → List X → Type 0
Has x [] = ⊥
Has x (y ∷ ys) = (x ≡ y) ⊎ Has x ys

pub has_behind : {X : Type 0} (x : X) (xs ys : List X) → Has x ys → Has x (xs ++ ys)
has_behind x [] ys h = h
has_behind x (y ∷ xs) ys h = inr (has_behind x xs ys h)

pub has_found : {X : Type 0} (p : X → Bool) (xs : List X) (x : X) → find p xs ≡ Some x → Has x xs × (p x ≡ true)
has_found p [] x e = cc
has_found p (y ∷ ys) x e = elim (cases_Bool (p y)) [
  | inl is ↦ (let here : Some y ≡ Some x = rw is at e in
      let same : x ≡ y = cc in
      (inl same, ap p same ∙ is))
  | inr other ↦ (let there = has_found p ys x (rw other at e) in (inr there.0, there.1))
]

-- two lists that are cut behind equally many elements
pub same_cut : {X : Type 0} (xs : List X) (x : X) (us : List X) (ys : List X) (y : X) (vs : List X)
    → xs ++ x ∷ us ≡ ys ++ y ∷ vs → length xs ≡ length ys → (x ≡ y) × (us ≡ vs)
same_cut [] x us [] y vs e n = (cc, cc)
same_cut [] x us (z ∷ ys) y vs e n = absurd (omega (arith, n))
same_cut (w ∷ xs) x us [] y vs e n = absurd (omega (arith, n))
same_cut (w ∷ xs) x us (z ∷ ys) y vs e n =
    let rest : xs ++ x ∷ us ≡ ys ++ y ∷ vs = cc in
    same_cut xs x us ys y vs rest (omega (arith, n))

-- ---- names and numbers

numbers_by : (b : Bool) (i : RequestId) (xs ys : List RequestId) (more : List ℕ) → map (λ j. j.number) ys ≡ map (λ j. j.number) xs ++ more
    → map (λ j. j.number) (cond b (i ∷ ys) ys) ≡ map (λ j. j.number) (cond b (i ∷ xs) xs) ++ more
numbers_by true i xs ys more e = ap (λ ns. i.number ∷ ns) e
numbers_by false i xs ys more e = e

pub numbers_append : (name : List ℕ) (xs ys : List RequestId) → numbers_at name (xs ++ ys) ≡ numbers_at name xs ++ numbers_at name ys
numbers_append name [] ys = refl
numbers_append name (i ∷ xs) ys =
    numbers_by (same_text i.service name) i (filter (λ j. same_text j.service name) xs) (filter (λ j. same_text j.service name) (xs ++ ys)) (numbers_at name ys) (numbers_append name xs ys)

numbers_if : (b : Bool) (i : RequestId) (xs : List RequestId) → b ≡ true → map (λ j. j.number) (cond b (i ∷ xs) xs) ≡ i.number ∷ map (λ j. j.number) xs
numbers_if true i xs e = refl
numbers_if false i xs e = cc

numbers_not : (b : Bool) (i : RequestId) (xs : List RequestId) → b ≡ false → map (λ j. j.number) (cond b (i ∷ xs) xs) ≡ map (λ j. j.number) xs
numbers_not true i xs e = cc
numbers_not false i xs e = refl

pub numbers_here : (name : List ℕ) (i : RequestId) (xs : List RequestId) → same_text i.service name ≡ true → numbers_at name (i ∷ xs) ≡ i.number ∷ numbers_at name xs
numbers_here name i xs h = numbers_if (same_text i.service name) i (filter (λ j. same_text j.service name) xs) h

pub numbers_there : (name : List ℕ) (i : RequestId) (xs : List RequestId) → same_text i.service name ≡ false → numbers_at name (i ∷ xs) ≡ numbers_at name xs
numbers_there name i xs h = numbers_not (same_text i.service name) i (filter (λ j. same_text j.service name) xs) h

-- ---- each of a list

pub each_has : {X : Type 0} (P : X → Type 0) (x : X) (xs : List X) → AllByRecursion P xs → Has x xs → P x
each_has P x [] each h = absurd h
each_has P x (y ∷ ys) each (inl e) = subst P (sym e) each.0
each_has P x (y ∷ ys) each (inr h) = each_has P x ys each.1 h

pub has_id : (a : Act) (acts : List Act) → Has a acts → Has a.id (map (λ (c : Act). c.id) acts)
has_id a [] h = absurd h
has_id a (b ∷ acts) (inl e) = inl (ap (λ (c : Act). c.id) e)
has_id a (b ∷ acts) (inr h) = inr (has_id a acts h)

pub apart_ids : (a b : Act) (acts : List Act) → AreApart (map (λ (c : Act). c.id) acts) → Has a acts → Has b acts → a.id ≡ b.id → a ≡ b
apart_ids a b [] apart h k e = absurd h
apart_ids a b (c ∷ acts) apart (inl i) (inl j) e = i ∙ sym j
apart_ids a b (c ∷ acts) apart (inl i) (inr k) e =
    absurd (each_has (λ n. ¬ (c.id ≡ n)) b.id (map (λ (d : Act). d.id) acts) apart.0 (has_id b acts k) (ap (λ (d : Act). d.id) (sym i) ∙ e))
apart_ids a b (c ∷ acts) apart (inr h) (inl j) e =
    absurd (each_has (λ n. ¬ (c.id ≡ n)) a.id (map (λ (d : Act). d.id) acts) apart.0 (has_id a acts h) (ap (λ (d : Act). d.id) (sym j) ∙ sym e))
apart_ids a b (c ∷ acts) apart (inr h) (inr k) e = apart_ids a b acts apart.1 h k e

-- ---- tests

pub if_true : {X : Type 0} (b : Bool) (x y : X) → b ≡ true → cond b x y ≡ x
if_true true x y h = refl
if_true false x y h = absurd cc

pub if_false : {X : Type 0} (b : Bool) (x y : X) → b ≡ false → cond b x y ≡ y
if_false true x y h = absurd cc
if_false false x y h = refl

pub same_is : (a b : List ℕ) → same_text a b ≡ true → a ≡ b
same_is a b is = text_is a b is

pub same_self : (a : List ℕ) → same_text a a ≡ true
same_self a = nat_list_eq_equiv.refl a

pub same_apart : (a b : List ℕ) → ¬ (a ≡ b) → same_text a b ≡ false
same_apart a b isnt = elim (cases_Bool (same_text a b)) [
  | inl is ↦ absurd (isnt (text_is a b is))
  | inr other ↦ other
]

pub apart_same : (a b : List ℕ) → same_text a b ≡ false → ¬ (b ≡ a)
apart_same a b isnt e = true≢false (sym (subst (λ x. same_text a x ≡ true) (sym e) (same_self a)) ∙ isnt)
