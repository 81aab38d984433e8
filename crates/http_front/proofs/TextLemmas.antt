-- Texts that are put together piece by piece.
use Rattle.std.proofs.Common.{◌≡◌, ℕ, List, ◌∷◌, ◌++◌, Result, Ok, Err, OnOk, sym, ap, ◌∙◌, append_assoc}
use Rattle.std.specs.List.{flat_map}
use Rattle.std.proofs.lemmas.Grind.{flat_map-append}

-- what follows from a call's success
pub on_ok : {X E P Q : Type 0} (answer : Result X E) → (P → Q) → OnOk answer P → OnOk answer Q
on_ok (Ok x) f p = f p
on_ok (Err e) f p = p

-- four pieces
pub joined_in_four : (a b c d e w x y z : List ℕ) → b ≡ a ++ w → c ≡ b ++ x → d ≡ c ++ y → e ≡ d ++ z → e ≡ a ++ (w ++ (x ++ (y ++ z)))
joined_in_four a b c d e w x y z first second third fourth =
    let one = fourth ∙ ap (λ (t : List ℕ). t ++ z) third in
    let two = one ∙ ap (λ (t : List ℕ). (t ++ y) ++ z) second in
    let three = two ∙ ap (λ (t : List ℕ). ((t ++ x) ++ y) ++ z) first in
    three ∙ simp append_assoc

-- four pieces behind a first one of four
pub regroup_four_pieces : (m s p h rest : List ℕ) → (m ++ (s ++ (p ++ h))) ++ rest ≡ m ++ (s ++ (p ++ (h ++ rest)))
regroup_four_pieces m s p h rest = simp append_assoc

-- the lines of three groups of fields, and what follows
pub three_groups : {A : Type 0} (line : A → List ℕ) (xs ys zs : List A) (rest : List ℕ)
    → flat_map line xs ++ (flat_map line ys ++ (flat_map line zs ++ rest)) ≡ flat_map line (xs ++ (ys ++ zs)) ++ rest
three_groups line xs ys zs rest =
    let inner = flat_map-append line ys zs in
    let outer = flat_map-append line xs (ys ++ zs) in
    sym (ap (λ (t : List ℕ). t ++ rest) (outer ∙ ap (λ (t : List ℕ). flat_map line xs ++ t) inner) ∙ simp append_assoc)

-- the same with one field in the middle
pub three_groups_one : {A : Type 0} (line : A → List ℕ) (xs : List A) (y : A) (zs : List A) (rest : List ℕ)
    → flat_map line xs ++ (line y ++ (flat_map line zs ++ rest)) ≡ flat_map line (xs ++ (y ∷ zs)) ++ rest
three_groups_one line xs y zs rest =
    sym (ap (λ (t : List ℕ). t ++ rest) (flat_map-append line xs (y ∷ zs)) ∙ simp append_assoc)

pub regroup_five : (h d s p e rest : List ℕ) → (h ++ (d ++ (s ++ (p ++ e)))) ++ rest ≡ h ++ (d ++ (s ++ (p ++ (e ++ rest))))
regroup_five h d s p e rest = simp append_assoc
