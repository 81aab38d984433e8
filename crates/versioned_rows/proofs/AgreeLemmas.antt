-- Whether cells are those of a scan, told one after the other.
use Rattle.std.proofs.Common.{◌≡◌, ◌↔◌, ℕ, zero, suc, ◌+◌, ◌<◌, ◌≤◌, IsTrue, List, [], ◌∷◌, ◌++◌, nat_eq, length, get_or, take, sym, ap, ◌∙◌, arith, eq-eqb, eqb-true, add-one}
use Rattle.std.proofs.lemmas.List.{length-take-le}
use Rattle.key_labels.proofs.ListLemmas.{take_whole}

next_by : {X : Type 0} (xs : List X) (n : ℕ) (x : X) → n < length xs → get_or xs n x ≡ x → take (suc n) xs ≡ take n xs ++ x ∷ []
next_by [] n x lt is = absurd (omega arith)
next_by (y ∷ ys) zero x lt is = ap (λ z. z ∷ []) is
next_by (y ∷ ys) (suc n) x lt is = ap (λ l. y ∷ l) (next_by ys n x (omega arith) is)

-- a front with one more
pub take_next : {X : Type 0} (xs : List X) (n : ℕ) (x : X) → n < length xs → get_or xs n x ≡ x → take (n + 1) xs ≡ take n xs ++ x ∷ []
take_next xs n x lt is = rw add-one (next_by xs n x lt is)

-- a front is the whole exactly where it is as long
pub whole : {X : Type 0} (xs total : List X) (n : ℕ) → n ≤ length xs → take n xs ≡ total → IsTrue (nat_eq n (length xs)) ↔ (xs ≡ total)
whole xs total n le h = (
  λ e. sym (take_whole xs n (eqb-true n (length xs) e)) ∙ h,
  λ e. eq-eqb n (length xs) (sym (length-take-le n xs le) ∙ ap length (h ∙ sym e)),
)
