-- What is read at a place after a change at a place.
use Rattle.std.proofs.Common.{◌≡◌, ℕ, Bool, true, false, cond, ◌&&◌, List, [], ◌∷◌, Option, Some, None, find, option_map, refl, sym, ap, ◌∙◌, subst}
use Rattle.std.specs.declared.cmp.Ordering.{Ordering}
use Rattle.std.specs.declared.cmp.Ordering.TheVariants.{Less, Equal, Greater}
use Rattle.std.specs.Ordering.{ordering_reverse, ordering_then, is_eq}
use Rattle.std.specs.Cmp.{Equal-is}
use Rattle.std.specs.Cmp.Lexicographic.{same_text as text_is}
use Rattle.std.proofs.lemmas.Bool.{and_from, and_parts}
use Rattle.std.proofs.lemmas.Cmp.{nat_list_eq_equiv}
use Rattle.std.proofs.lemmas.Map.Text.{is_eq-slice_cmp}
use Rattle.lang_tree.specs.HandedOn.{same_text, text_order}
use Rattle.lang_core.specs.Places.{Place, place_of, place_order, same_place, IsBelowAll, IsOrdered, set_in, unset_in}
use Rattle.lang_core.specs.declared.cells.Cell.{Cell}
use Rattle.lang_core.specs.declared.writes.Write.{Write}
use Rattle.lang_core.specs.Rows.{cell_place, write_place, get, with_text, after_write, apply, written}
use Rattle.lang_core.proofs.PlaceLemmas.{total, chosen, below_before}
use Rattle.lang_core.proofs.RowLemmas.{ordered-text}

is_eq-then : (o q : Ordering) → is_eq (ordering_then o q) ≡ (is_eq o && is_eq q)
is_eq-then Less q = refl
is_eq-then Equal q = refl
is_eq-then Greater q = refl

is_eq-reverse : (o : Ordering) → is_eq (ordering_reverse o) ≡ is_eq o
is_eq-reverse Less = refl
is_eq-reverse Equal = refl
is_eq-reverse Greater = refl

alike : (a b c d : Bool) → a ≡ b → c ≡ d → (a && c) ≡ (b && d)
alike a b c d e f = rw (e, f) refl

-- two places are the same exactly where neither is below the other
pub same-order : (p q : Place) → same_place p q ≡ is_eq (place_order p q)
same-order p q =
    alike (same_text p.table q.table) (is_eq (text_order p.table q.table)) (same_text p.key q.key) (is_eq (text_order p.key q.key))
    (sym (is_eq-slice_cmp p.table q.table)) (sym (is_eq-slice_cmp p.key q.key))
    ∙ sym (is_eq-then (text_order p.table q.table) (text_order p.key q.key))

pub place_is : (p q : Place) → same_place p q ≡ true → p ≡ q
place_is p q h =
    let both = and_parts (same_text p.table q.table) (same_text p.key q.key) h in
    let t : p.table ≡ q.table = text_is p.table q.table (sym both.0) in
    let k : p.key ≡ q.key = text_is p.key q.key (sym both.1) in
    λ i. record { table = t i; key = k i }

pub place_same : (p q : Place) → p ≡ q → same_place p q ≡ true
place_same p q e =
    let P : Place → Type 0 = λ z. same_place p z ≡ true in
    subst P e (and_from (same_text p.table p.table) (same_text p.key p.key) (nat_list_eq_equiv.refl p.table) (nat_list_eq_equiv.refl p.key))

pub other_place : (p q : Place) (o : Ordering) → place_order p q ≡ o → is_eq o ≡ false → same_place p q ≡ false
other_place p q o e h = same-order p q ∙ ap is_eq e ∙ h

pub not_less_twice : (p q : Place) → place_order p q ≡ Less → place_order q p ≡ Less → ⊥
not_less_twice p q e f = let a = total.antisymm p q in cc

equal_order : (p q : Place) → same_place p q ≡ true → place_order p q ≡ Equal
equal_order p q h = (Equal-is (place_order p q)).0 (sym (same-order p q) ∙ h)

-- equal places are the same as the same ones
same_alike : (p q z : Place) → place_order p q ≡ Equal → same_place p z ≡ same_place q z
same_alike p q z h = same-order p z ∙ ap is_eq (total.congr p q z h) ∙ sym (same-order q z)

-- two places that differ aren't both a third
apart : (p q z : Place) (o : Ordering) → place_order p q ≡ o → is_eq o ≡ false → same_place p z ≡ true → same_place q z ≡ false
apart p q z o h differs same =
    same-order q z ∙ ap is_eq (total.antisymm q z) ∙ is_eq-reverse (place_order z q)
    ∙ ap is_eq (sym (total.congr p z q (equal_order p z same)) ∙ h) ∙ differs

-- two tests in turn, of which at most one passes
in_turn : {X : Type 0} (b c : Bool) (x y : X) (o : Option X) → (b ≡ true → c ≡ false) → cond c (Some y) (cond b (Some x) o) ≡ cond b (Some x) (cond c (Some y) o)
in_turn true true x y o h = let never = h refl in cc
in_turn true false x y o h = refl
in_turn false true x y o h = refl
in_turn false false x y o h = refl

hidden : {X : Type 0} (b c : Bool) (x y : X) (o : Option X) → b ≡ c → cond b (Some x) o ≡ cond b (Some x) (cond c (Some y) o)
hidden true c x y o h = refl
hidden false true x y o h = cc
hidden false false x y o h = refl

gone : {X : Type 0} (b : Bool) (o : Option X) → (b ≡ true → o ≡ None) → o ≡ cond b None o
gone true o h = h refl
gone false o h = refl

gone_first : {X : Type 0} (b c : Bool) (y : X) (o : Option X) → b ≡ c → (c ≡ true → o ≡ None) → o ≡ cond b None (cond c (Some y) o)
gone_first true true y o e h = h refl
gone_first true false y o e h = cc
gone_first false true y o e h = cc
gone_first false false y o e h = refl

gone_later : {X : Type 0} (b c : Bool) (y : X) (o : Option X) → (b ≡ true → c ≡ false) → cond c (Some y) (cond b None o) ≡ cond b None (cond c (Some y) o)
gone_later true true y o h = let never = h refl in cc
gone_later true false y o h = refl
gone_later false c y o h = refl

nothing : {X : Type 0} (b : Bool) → None ≡ cond {A = Option X} b None None
nothing true = refl
nothing false = refl

module _ {X : Type 0} (place : X → Place) where
  -- nothing stands at a place that is below all
  none_below : (p z : Place) (xs : List X) → IsBelowAll place p xs → same_place p z ≡ true → find (λ x. same_place (place x) z) xs ≡ None
  none_below p z [] all same = refl
  none_below p z (x ∷ xs) all same = rw (apart p (place x) z Less all.0 refl same) (none_below p z xs all.1 same)

  pub find-set_in : (z : Place) (x : X) (ys : List X) → find (λ y. same_place (place y) z) (set_in place x ys) ≡ cond (same_place (place x) z) (Some x) (find (λ y. same_place (place y) z) ys)
  find-set_in z x [] = refl
  find-set_in z x (y ∷ ys) =
      chosen place (λ l. find (λ v. same_place (place v) z) l ≡ cond (same_place (place x) z) (Some x) (find (λ v. same_place (place v) z) (y ∷ ys)))
      (place_order (place x) (place y)) (x ∷ y ∷ ys) (x ∷ ys) (y ∷ set_in place x ys)
      (λ _. refl)
      (λ e. hidden (same_place (place x) z) (same_place (place y) z) x y (find (λ v. same_place (place v) z) ys) (same_alike (place x) (place y) z e))
      (λ e. ap (cond (same_place (place y) z) (Some y)) (find-set_in z x ys)
      ∙ in_turn (same_place (place x) z) (same_place (place y) z) x y (find (λ v. same_place (place v) z) ys) (apart (place x) (place y) z Greater e refl))

  pub find-unset_in : (z q : Place) (ys : List X) → IsOrdered place ys → find (λ y. same_place (place y) z) (unset_in place q ys) ≡ cond (same_place q z) None (find (λ y. same_place (place y) z) ys)
  find-unset_in z q [] o = nothing (same_place q z)
  find-unset_in z q (y ∷ ys) o =
      chosen place (λ l. find (λ v. same_place (place v) z) l ≡ cond (same_place q z) None (find (λ v. same_place (place v) z) (y ∷ ys)))
      (place_order q (place y)) (y ∷ ys) ys (y ∷ unset_in place q ys)
      (λ e. gone (same_place q z) (find (λ v. same_place (place v) z) (y ∷ ys)) (λ same. none_below q z (y ∷ ys) (e, below_before place q (place y) ys e o.0) same))
      (λ e. gone_first (same_place q z) (same_place (place y) z) y (find (λ v. same_place (place v) z) ys) (same_alike q (place y) z e) (none_below (place y) z ys o.0))
      (λ e. ap (cond (same_place (place y) z) (Some y)) (find-unset_in z q ys o.1)
      ∙ gone_later (same_place q z) (same_place (place y) z) y (find (λ v. same_place (place v) z) ys) (apart q (place y) z Greater e refl))

text_if : (b : Bool) (c : Cell) (o : Option Cell) → option_map (λ (c : Cell). c.text) (cond b (Some c) o) ≡ cond b (Some c.text) (option_map (λ (c : Cell). c.text) o)
text_if true c o = refl
text_if false c o = refl

none_if : (b : Bool) (o : Option Cell) → option_map (λ (c : Cell). c.text) (cond b None o) ≡ cond b None (option_map (λ (c : Cell). c.text) o)
none_if true o = refl
none_if false o = refl

-- what is read after a write is what it wrote at its place, and what stood there at any other
pub get-with_text : (wt wk t k : List ℕ) (text : Option (List ℕ)) (cs : List Cell) → IsOrdered cell_place cs
    → get (with_text wt wk text cs) t k ≡ cond (same_place (place_of wt wk) (place_of t k)) text (get cs t k)
get-with_text wt wk t k None cs o =
    ap (option_map (λ (c : Cell). c.text)) (find-unset_in cell_place (place_of t k) (place_of wt wk) cs o)
    ∙ none_if (same_place (place_of wt wk) (place_of t k)) (find (λ c. same_place (cell_place c) (place_of t k)) cs)
get-with_text wt wk t k (Some x) cs o =
    let c : Cell = record { table = wt; key = wk; text = x } in
    ap (option_map (λ (c : Cell). c.text)) (find-set_in cell_place (place_of t k) c cs)
    ∙ text_if (same_place (place_of wt wk) (place_of t k)) c (find (λ c. same_place (cell_place c) (place_of t k)) cs)

written_first : (w : Write) (ws : List Write) (t k : List ℕ) (before : Option (List ℕ)) (b : Bool) → b ≡ same_place (write_place w) (place_of t k)
    → (b ≡ true → find (λ v. same_place (write_place v) (place_of t k)) ws ≡ None)
    → written ws t k (cond b w.text before) ≡ written (w ∷ ws) t k before
written_first w ws t k before true same none = rw (← same, none refl) refl
written_first w ws t k before false same none = rw (← same) refl

pub get-apply : (cs : List Cell) (ws : List Write) (t k : List ℕ) → IsOrdered cell_place cs → IsOrdered write_place ws → get (apply cs ws) t k ≡ written ws t k (get cs t k)
get-apply cs [] t k o p = refl
get-apply cs (w ∷ ws) t k o p =
    get-apply (after_write cs w) ws t k (ordered-text w.table w.key w.text cs o) p.1
    ∙ ap (written ws t k) (get-with_text w.table w.key t k w.text cs o)
    ∙ written_first w ws t k (get cs t k) (same_place (write_place w) (place_of t k)) refl (none_below write_place (write_place w) (place_of t k) ws p.0)
