-- What a change at a place does to a list in order.
use Rattle.std.proofs.Common.{◌≡◌, ℕ, suc, Bool, true, false, List, [], ◌∷◌, ◌++◌, take, drop, refl, sym, ap, ◌∙◌}
use Rattle.std.specs.declared.cmp.Ordering.{Ordering}
use Rattle.std.specs.declared.cmp.Ordering.TheVariants.{Less, Equal, Greater}
use Rattle.std.specs.Ordering.{ordering_reverse}
use Rattle.std.specs.Cmp.{IsTotalOrder, then_total, on_total}
use Rattle.std.specs.Cmp.Lexicographic.{nat_list_cmp_total}
use Rattle.lang_core.specs.Places.{Place, place_of, place_order, IsBelowAll, IsOrdered, by_order, set_in, unset_in, rank, is_taken, past}

pub total : IsTotalOrder place_order
total = then_total (on_total (λ (p : Place). p.table) nat_list_cmp_total) (on_total (λ (p : Place). p.key) nat_list_cmp_total)

turned : (p q : Place) → place_order p q ≡ Greater → place_order q p ≡ Less
turned p q h = total.antisymm q p ∙ ap ordering_reverse h

module _ {X : Type 0} (place : X → Place) where
  -- what holds of each choice holds of the chosen one
  pub chosen : (P : List X → Type 0) (o : Ordering) (a b c : List X) → (o ≡ Less → P a) → (o ≡ Equal → P b) → (o ≡ Greater → P c) → P (by_order o a b c)
  chosen P Less a b c p q r = p refl
  chosen P Equal a b c p q r = q refl
  chosen P Greater a b c p q r = r refl

  pub below_before : (p q : Place) (xs : List X) → place_order p q ≡ Less → IsBelowAll place q xs → IsBelowAll place p xs
  below_before p q [] h all = tt
  below_before p q (x ∷ xs) h all = (total.trans p q (place x) h all.0, below_before p q xs h all.1)

  below_same : (p q : Place) (xs : List X) → place_order p q ≡ Equal → IsBelowAll place q xs → IsBelowAll place p xs
  below_same p q [] h all = tt
  below_same p q (x ∷ xs) h all = (total.congr p q (place x) h ∙ all.0, below_same p q xs h all.1)

  below-set : (p : Place) (x : X) (ys : List X) → place_order p (place x) ≡ Less → IsBelowAll place p ys → IsBelowAll place p (set_in place x ys)
  below-set p x [] h all = (h, tt)
  below-set p x (y ∷ ys) h all =
      chosen (IsBelowAll place p) (place_order (place x) (place y)) (x ∷ y ∷ ys) (x ∷ ys) (y ∷ set_in place x ys)
      (λ _. (h, all)) (λ _. (h, all.1)) (λ _. (all.0, below-set p x ys h all.1))

  pub ordered-set : (x : X) (ys : List X) → IsOrdered place ys → IsOrdered place (set_in place x ys)
  ordered-set x [] o = (tt, tt)
  ordered-set x (y ∷ ys) o =
      chosen (IsOrdered place) (place_order (place x) (place y)) (x ∷ y ∷ ys) (x ∷ ys) (y ∷ set_in place x ys)
      (λ e. ((e, below_before (place x) (place y) ys e o.0), o))
      (λ e. (below_same (place x) (place y) ys e o.0, o.1))
      (λ e. (below-set (place y) x ys (turned (place x) (place y) e) o.0, ordered-set x ys o.1))

  below-unset : (p q : Place) (ys : List X) → IsBelowAll place p ys → IsBelowAll place p (unset_in place q ys)
  below-unset p q [] all = tt
  below-unset p q (y ∷ ys) all =
      chosen (IsBelowAll place p) (place_order q (place y)) (y ∷ ys) ys (y ∷ unset_in place q ys)
      (λ _. all) (λ _. all.1) (λ _. (all.0, below-unset p q ys all.1))

  pub ordered-unset : (q : Place) (ys : List X) → IsOrdered place ys → IsOrdered place (unset_in place q ys)
  ordered-unset q [] o = tt
  ordered-unset q (y ∷ ys) o =
      chosen (IsOrdered place) (place_order q (place y)) (y ∷ ys) ys (y ∷ unset_in place q ys)
      (λ _. o) (λ _. o.1) (λ _. (below-unset (place y) q ys o.0, ordered-unset q ys o.1))

  -- a change as an edit at the rank
  further : (x y : X) (ys : List X) (taken : Bool) (n : ℕ) → y ∷ (take n ys ++ x ∷ drop (past taken n) ys) ≡ take (suc n) (y ∷ ys) ++ x ∷ drop (past taken (suc n)) (y ∷ ys)
  further x y ys true n = refl
  further x y ys false n = refl

  set_by : (x y : X) (ys : List X) (o : Ordering) → set_in place x ys ≡ take (rank place (place x) ys) ys ++ x ∷ drop (past (is_taken place (place x) ys) (rank place (place x) ys)) ys
      → by_order o (x ∷ y ∷ ys) (x ∷ ys) (y ∷ set_in place x ys)
      ≡ take (by_order o 0 0 (suc (rank place (place x) ys))) (y ∷ ys) ++ x ∷ drop (past (by_order o false true (is_taken place (place x) ys)) (by_order o 0 0 (suc (rank place (place x) ys)))) (y ∷ ys)
  set_by x y ys Less e = refl
  set_by x y ys Equal e = refl
  set_by x y ys Greater e = ap (λ l. y ∷ l) e ∙ further x y ys (is_taken place (place x) ys) (rank place (place x) ys)

  pub set_edits : (x : X) (ys : List X) → set_in place x ys ≡ take (rank place (place x) ys) ys ++ x ∷ drop (past (is_taken place (place x) ys) (rank place (place x) ys)) ys
  set_edits x [] = refl
  set_edits x (y ∷ ys) = set_by x y ys (place_order (place x) (place y)) (set_edits x ys)

  less : (y : X) (ys : List X) (taken : Bool) (n : ℕ) → y ∷ (take n ys ++ drop (past taken n) ys) ≡ take (suc n) (y ∷ ys) ++ drop (past taken (suc n)) (y ∷ ys)
  less y ys true n = refl
  less y ys false n = refl

  unset_by : (q : Place) (y : X) (ys : List X) (o : Ordering) → unset_in place q ys ≡ take (rank place q ys) ys ++ drop (past (is_taken place q ys) (rank place q ys)) ys
      → by_order o (y ∷ ys) ys (y ∷ unset_in place q ys)
      ≡ take (by_order o 0 0 (suc (rank place q ys))) (y ∷ ys) ++ drop (past (by_order o false true (is_taken place q ys)) (by_order o 0 0 (suc (rank place q ys)))) (y ∷ ys)
  unset_by q y ys Less e = refl
  unset_by q y ys Equal e = refl
  unset_by q y ys Greater e = ap (λ l. y ∷ l) e ∙ less y ys (is_taken place q ys) (rank place q ys)

  pub unset_edits : (q : Place) (ys : List X) → unset_in place q ys ≡ take (rank place q ys) ys ++ drop (past (is_taken place q ys) (rank place q ys)) ys
  unset_edits q [] = refl
  unset_edits q (y ∷ ys) = unset_by q y ys (place_order q (place y)) (unset_edits q ys)

  -- the same, where the rank was sought by table and key
  pub set_at : (x : X) (ys zs : List X) (t k : List ℕ) (n : ℕ) (taken : Bool) → t ≡ (place x).table → k ≡ (place x).key
      → n ≡ rank place (place_of t k) ys → taken ≡ is_taken place (place_of t k) ys → zs ≡ take n ys ++ x ∷ drop (past taken n) ys
      → zs ≡ set_in place x ys
  set_at x ys zs t k n taken et ek en eb h = rw (h, en, eb, et, ek) (sym (set_edits x ys))
