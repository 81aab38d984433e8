-- The writes from rows to others, cell by cell: they stand in order, lead there, and change what stands at their places.
use Rattle.std.proofs.Common.{◌≡◌, ◌≢◌, ℕ, Bool, true, false, cond, List, [], ◌∷◌, ◌++◌, Option, Some, None, All, length, refl, sym, ap, ◌∙◌, subst, inl, inr, arith}
use Rattle.std.specs.declared.cmp.Ordering.{Ordering}
use Rattle.std.specs.declared.cmp.Ordering.TheVariants.{Less, Equal, Greater}
use Rattle.std.specs.Cmp.Lexicographic.{same_text as text_is}
use Rattle.std.specs.Ordering.{is_eq, ordering_reverse}
use Rattle.std.proofs.lemmas.Bool.{cases_Bool}
use Rattle.std.proofs.lemmas.Cmp.{nat_list_eq_equiv}
use Rattle.std.proofs.lemmas.List.{append-nil}
use Rattle.std.proofs.lemmas.List.Elements.{All-nil, All-cons, All-head, All-tail}
use Rattle.lang_base.specs.Texts.{same_text}
use Rattle.lang_core.specs.Places.{Place, IsBelowAll, IsOrdered, by_order, place_of, place_order}
use Rattle.lang_core.specs.Rows.{after_write, apply, cell_place, get, with_text, write_place}
use Rattle.lang_core.specs.declared.cells.Cell.{Cell}
use Rattle.lang_core.specs.declared.writes.Write.{Write}
use Rattle.lang_core.proofs.PlaceLemmas.{total, chosen, below_before}
use Rattle.lang_core.proofs.ReadLemmas.{other_place, place_is, place_same, same-order}
use Rattle.preview_core.specs.Differences.{LeadsTo, difference, dropped, put, put_other}

-- ---- places

pub turned : (p q : Place) → place_order p q ≡ Greater → place_order q p ≡ Less
turned p q h = total.antisymm q p ∙ ap ordering_reverse h

pub above : (p q : Place) → place_order p q ≡ Less → place_order q p ≡ Greater
above p q h = total.antisymm q p ∙ ap ordering_reverse h

pub equal_is : (p q : Place) → place_order p q ≡ Equal → p ≡ q
equal_is p q h = place_is p q (same-order p q ∙ ap is_eq h)

is_equal : (o : Ordering) → is_eq o ≡ true → o ≡ Equal
is_equal Less h = cc
is_equal Equal h = refl
is_equal Greater h = cc

equal_itself : (p : Place) → place_order p p ≡ Equal
equal_itself p = is_equal (place_order p p) (sym (same-order p p) ∙ place_same p p refl)

-- ---- in order

below_other : (p : Place) (c d : Cell) (ws : List Write) → place_order p (cell_place d) ≡ Less → IsBelowAll write_place p ws → IsBelowAll write_place p (put_other c d ws)
below_other p c d ws h all = by (same_text c.text d.text)
  where
    by : (b : Bool) → IsBelowAll write_place p (cond b ws (put d ∷ ws))
    by true = all
    by false = (h, all)

-- a place below the cells of both is below the writes
below_difference : (p : Place) (cs ds : List Cell) → IsBelowAll cell_place p cs → IsBelowAll cell_place p ds → IsBelowAll write_place p (difference cs ds)
below_difference p [] [] a b = tt
below_difference p [] (d ∷ ds) a b = (b.0, below_difference p [] ds tt b.1)
below_difference p (c ∷ cs) [] a b = (a.0, below_difference p cs [] a.1 tt)
below_difference p (c ∷ cs) (d ∷ ds) a b =
    chosen write_place (IsBelowAll write_place p) (place_order (cell_place c) (cell_place d))
    (dropped c ∷ difference cs (d ∷ ds)) (put_other c d (difference cs ds)) (put d ∷ difference (c ∷ cs) ds)
    (λ _. (a.0, below_difference p cs (d ∷ ds) a.1 b))
    (λ _. below_other p c d (difference cs ds) b.0 (below_difference p cs ds a.1 b.1))
    (λ _. (b.0, below_difference p (c ∷ cs) ds a b.1))

ordered_other : (c d : Cell) (ws : List Write) → IsBelowAll write_place (cell_place d) ws → IsOrdered write_place ws → IsOrdered write_place (put_other c d ws)
ordered_other c d ws below o = by (same_text c.text d.text)
  where
    by : (b : Bool) → IsOrdered write_place (cond b ws (put d ∷ ws))
    by true = o
    by false = (below, o)

pub ordered_difference : (cs ds : List Cell) → IsOrdered cell_place cs → IsOrdered cell_place ds → IsOrdered write_place (difference cs ds)
ordered_difference [] [] o q = tt
ordered_difference [] (d ∷ ds) o q = (below_difference (cell_place d) [] ds tt q.0, ordered_difference [] ds tt q.1)
ordered_difference (c ∷ cs) [] o q = (below_difference (cell_place c) cs [] o.0 tt, ordered_difference cs [] o.1 tt)
ordered_difference (c ∷ cs) (d ∷ ds) o q =
    chosen write_place (IsOrdered write_place) (place_order (cell_place c) (cell_place d))
    (dropped c ∷ difference cs (d ∷ ds)) (put_other c d (difference cs ds)) (put d ∷ difference (c ∷ cs) ds)
    (λ e. (below_difference (cell_place c) cs (d ∷ ds) o.0 (e, below_before cell_place (cell_place c) (cell_place d) ds e q.0), ordered_difference cs (d ∷ ds) o.1 q))
    (λ e. ordered_other c d (difference cs ds)
    (below_difference (cell_place d) cs ds (subst (λ p. IsBelowAll cell_place p cs) (equal_is (cell_place c) (cell_place d) e) o.0) q.0) (ordered_difference cs ds o.1 q.1))
    (λ e. (let less = turned (cell_place c) (cell_place d) e in
    (below_difference (cell_place d) (c ∷ cs) ds (less, below_before cell_place (cell_place d) (cell_place c) cs less o.0) q.0, ordered_difference (c ∷ cs) ds o q.1)))

-- ---- they lead there

front_text : (c : Cell) (t k : List ℕ) (o : Option (List ℕ)) (cs : List Cell) → place_order (place_of t k) (cell_place c) ≡ Greater
    → with_text t k o (c ∷ cs) ≡ c ∷ with_text t k o cs
front_text c t k None cs h = rw h refl
front_text c t k (Some x) cs h = rw h refl

-- writes above a cell leave it
front_apply : (c : Cell) (cs : List Cell) (ws : List Write) → IsBelowAll write_place (cell_place c) ws → apply (c ∷ cs) ws ≡ c ∷ apply cs ws
front_apply c cs [] all = refl
front_apply c cs (w ∷ ws) all =
    ap (λ x. apply x ws) (front_text c w.table w.key w.text cs (above (cell_place c) (write_place w) all.0))
    ∙ front_apply c (after_write cs w) ws all.1

drop_first : (c : Cell) (cs : List Cell) → after_write (c ∷ cs) (dropped c) ≡ cs
drop_first c cs = rw (equal_itself (cell_place c)) refl

put_first : (c d : Cell) (cs : List Cell) → place_order (cell_place d) (cell_place c) ≡ Less → after_write (c ∷ cs) (put d) ≡ d ∷ c ∷ cs
put_first c d cs h = rw h refl

put_instead : (c d : Cell) (cs : List Cell) → place_order (cell_place d) (cell_place c) ≡ Equal → after_write (c ∷ cs) (put d) ≡ d ∷ cs
put_instead c d cs h = rw h refl

same_cell : (c d : Cell) → cell_place c ≡ cell_place d → c.text ≡ d.text → c ≡ d
same_cell c d place text =
    let t : c.table ≡ d.table = ap (λ (p : Place). p.table) place in
    let k : c.key ≡ d.key = ap (λ (p : Place). p.key) place in
    λ i. record { table = t i; key = k i; text = text i }

leads_other : (c d : Cell) (cs ds : List Cell) → cell_place c ≡ cell_place d → IsBelowAll write_place (cell_place c) (difference cs ds)
    → apply cs (difference cs ds) ≡ ds → apply (c ∷ cs) (put_other c d (difference cs ds)) ≡ d ∷ ds
leads_other c d cs ds place below leads = elim (cases_Bool (same_text c.text d.text)) [
  | inl is ↦ rw is (front_apply c cs (difference cs ds) below ∙ ap (λ xs. c ∷ xs) leads ∙ ap (λ x. x ∷ ds) (same_cell c d place (text_is c.text d.text (sym is))))
  | inr other ↦ rw other
      (ap (λ xs. apply xs (difference cs ds)) (put_instead c d cs (subst (λ p. place_order p (cell_place c) ≡ Equal) place (equal_itself (cell_place c))))
      ∙ front_apply d cs (difference cs ds) (subst (λ p. IsBelowAll write_place p (difference cs ds)) place below) ∙ ap (λ xs. d ∷ xs) leads)
]

pub difference_leads : (cs ds : List Cell) → IsOrdered cell_place cs → IsOrdered cell_place ds → apply cs (difference cs ds) ≡ ds
difference_leads [] [] o q = refl
difference_leads [] (d ∷ ds) o q =
    front_apply d [] (difference [] ds) (below_difference (cell_place d) [] ds tt q.0) ∙ ap (λ xs. d ∷ xs) (difference_leads [] ds tt q.1)
difference_leads (c ∷ cs) [] o q = ap (λ xs. apply xs (difference cs [])) (drop_first c cs) ∙ difference_leads cs [] o.1 tt
difference_leads (c ∷ cs) (d ∷ ds) o q =
    chosen write_place (λ ws. apply (c ∷ cs) ws ≡ d ∷ ds) (place_order (cell_place c) (cell_place d))
    (dropped c ∷ difference cs (d ∷ ds)) (put_other c d (difference cs ds)) (put d ∷ difference (c ∷ cs) ds)
    (λ e. ap (λ xs. apply xs (difference cs (d ∷ ds))) (drop_first c cs) ∙ difference_leads cs (d ∷ ds) o.1 q)
    (λ e. (let place = equal_is (cell_place c) (cell_place d) e in
    leads_other c d cs ds place (below_difference (cell_place c) cs ds o.0 (subst (λ p. IsBelowAll cell_place p ds) (sym place) q.0)) (difference_leads cs ds o.1 q.1)))
    (λ e. (let less = turned (cell_place c) (cell_place d) e in
    ap (λ xs. apply xs (difference (c ∷ cs) ds)) (put_first c d cs less)
    ∙ front_apply d (c ∷ cs) (difference (c ∷ cs) ds)
    (below_difference (cell_place d) (c ∷ cs) ds (less, below_before cell_place (cell_place d) (cell_place c) cs less o.0) q.0)
    ∙ ap (λ xs. d ∷ xs) (difference_leads (c ∷ cs) ds o q.1)))

-- ---- each changes what stands at its place

abbrev Changes : List Cell → Write → Type 0
Changes was w = get was w.table w.key ≢ w.text

get_here : (c : Cell) (cs : List Cell) (t k : List ℕ) → cell_place c ≡ place_of t k → get (c ∷ cs) t k ≡ Some c.text
get_here c cs t k h = rw (place_same (cell_place c) (place_of t k) h) refl

get_later : (c : Cell) (cs : List Cell) (t k : List ℕ) → place_order (cell_place c) (place_of t k) ≡ Less → get (c ∷ cs) t k ≡ get cs t k
get_later c cs t k h = rw (other_place (cell_place c) (place_of t k) Less h refl) refl

get_none : (t k : List ℕ) (cs : List Cell) → IsBelowAll cell_place (place_of t k) cs → get cs t k ≡ None
get_none t k [] all = refl
get_none t k (c ∷ cs) all = rw (other_place (cell_place c) (place_of t k) Greater (above (place_of t k) (cell_place c) all.0) refl) (get_none t k cs all.1)

-- so do writes above a cell that is put before the others
changes_later : (c : Cell) (cs : List Cell) (ws : List Write) → IsBelowAll write_place (cell_place c) ws → All (Changes cs) ws → All (Changes (c ∷ cs)) ws
changes_later c cs [] below all = All-nil (Changes (c ∷ cs))
changes_later c cs (w ∷ ws) below all =
    All-cons (Changes (c ∷ cs)) w ws (λ same. All-head (Changes cs) w ws all (sym (get_later c cs w.table w.key below.0) ∙ same))
    (changes_later c cs ws below.1 (All-tail (Changes cs) w ws all))

some_other : (a b : List ℕ) → same_text a b ≡ false → Some a ≢ Some b
some_other a b other same =
    let is : a ≡ b = cc in
    let alike : same_text a b ≡ true = subst (λ x. same_text a x ≡ true) is (nat_list_eq_equiv.refl a) in
    cc

changes_other : (c d : Cell) (cs : List Cell) (ws : List Write) → cell_place c ≡ cell_place d → All (Changes (c ∷ cs)) ws → All (Changes (c ∷ cs)) (put_other c d ws)
changes_other c d cs ws place all = by (same_text c.text d.text) refl
  where
    by : (b : Bool) → same_text c.text d.text ≡ b → All (Changes (c ∷ cs)) (cond b ws (put d ∷ ws))
    by true is = all
    by false other = All-cons (Changes (c ∷ cs)) (put d) ws (λ same. some_other c.text d.text other (sym (get_here c cs d.table d.key place) ∙ same)) all

pub difference_changes : (cs ds : List Cell) → IsOrdered cell_place cs → IsOrdered cell_place ds → All (Changes cs) (difference cs ds)
difference_changes [] [] o q = All-nil (Changes [])
difference_changes [] (d ∷ ds) o q = All-cons (Changes []) (put d) (difference [] ds) (λ same. cc) (difference_changes [] ds tt q.1)
difference_changes (c ∷ cs) [] o q =
    All-cons (Changes (c ∷ cs)) (dropped c) (difference cs []) (λ same. (let here = get_here c cs c.table c.key refl in cc))
    (changes_later c cs (difference cs []) (below_difference (cell_place c) cs [] o.0 tt) (difference_changes cs [] o.1 tt))
difference_changes (c ∷ cs) (d ∷ ds) o q =
    chosen write_place (All (Changes (c ∷ cs))) (place_order (cell_place c) (cell_place d))
    (dropped c ∷ difference cs (d ∷ ds)) (put_other c d (difference cs ds)) (put d ∷ difference (c ∷ cs) ds)
    (λ e. All-cons (Changes (c ∷ cs)) (dropped c) (difference cs (d ∷ ds)) (λ same. (let here = get_here c cs c.table c.key refl in cc))
    (changes_later c cs (difference cs (d ∷ ds))
    (below_difference (cell_place c) cs (d ∷ ds) o.0 (e, below_before cell_place (cell_place c) (cell_place d) ds e q.0)) (difference_changes cs (d ∷ ds) o.1 q)))
    (λ e. (let place = equal_is (cell_place c) (cell_place d) e in
    changes_other c d cs (difference cs ds) place
    (changes_later c cs (difference cs ds) (below_difference (cell_place c) cs ds o.0 (subst (λ p. IsBelowAll cell_place p ds) (sym place) q.0)) (difference_changes cs ds o.1 q.1))))
    (λ e. (let less = turned (cell_place c) (cell_place d) e in
    let none = get_none d.table d.key (c ∷ cs) (less, below_before cell_place (cell_place d) (cell_place c) cs less o.0) in
    All-cons (Changes (c ∷ cs)) (put d) (difference (c ∷ cs) ds) (λ same. cc) (difference_changes (c ∷ cs) ds o q.1)))

pub leads_to : (was is : List Cell) → IsOrdered cell_place was → IsOrdered cell_place is → LeadsTo was is (difference was is)
leads_to was is o q = record {
  ordered = ordered_difference was is o q;
  leads = difference_leads was is o q;
  changes = difference_changes was is o q;
}

-- ---- on the way

-- what stands before and at a place of a list in order stands in order
pub front_ordered : (ws : List Write) (w : Write) (more : List Write) → IsOrdered write_place (ws ++ w ∷ more) → IsOrdered write_place (ws ++ w ∷ [])
front_ordered [] w more o = (tt, tt)
front_ordered (v ∷ ws) w more o = (front_below (write_place v) ws w more o.0, front_ordered ws w more o.1)
  where
    front_below : (p : Place) (ws : List Write) (w : Write) (more : List Write) → IsBelowAll write_place p (ws ++ w ∷ more) → IsBelowAll write_place p (ws ++ w ∷ [])
    front_below p [] w more all = (all.0, tt)
    front_below p (v ∷ ws) w more all = (all.0, front_below p ws w more all.1)

none_there : (cs : List Cell) → length cs ≡ 0 → cs ≡ []
none_there [] h = refl
none_there (c ∷ cs) h = absurd (omega (arith, h))

below_front : (p : Place) (ws vs : List Write) → IsBelowAll write_place p (ws ++ vs) → IsBelowAll write_place p (ws ++ [])
below_front p [] vs h = tt
below_front p (w ∷ ws) vs h = (h.0, below_front p ws vs h.1)

-- and what stands before others
fewer_ordered : (ws vs : List Write) → IsOrdered write_place (ws ++ vs) → IsOrdered write_place (ws ++ [])
fewer_ordered [] vs h = tt
fewer_ordered (w ∷ ws) vs h = (below_front (write_place w) ws vs h.0, fewer_ordered ws vs h.1)

-- so it is with the first of the writes that are still to come
module _ (ws : List Write) (old new : List Cell) (o : IsOrdered write_place (ws ++ difference old new)) where
  pub put_alone : (d : Cell) (ds : List Cell) → length old ≡ 0 → new ≡ d ∷ ds → IsOrdered write_place (ws ++ put d ∷ [])
  put_alone d ds none there =
      let empty = none_there old none in
      front_ordered ws (put d) (difference [] ds) (subst (λ xs. IsOrdered write_place (ws ++ difference [] xs)) there (subst (λ xs. IsOrdered write_place (ws ++ difference xs new)) empty o))

  pub drop_alone : (c : Cell) (cs : List Cell) → old ≡ c ∷ cs → length new ≡ 0 → IsOrdered write_place (ws ++ dropped c ∷ [])
  drop_alone c cs there none =
      let empty = none_there new none in
      front_ordered ws (dropped c) (difference cs []) (subst (λ xs. IsOrdered write_place (ws ++ difference (c ∷ cs) xs)) empty (subst (λ xs. IsOrdered write_place (ws ++ difference xs new)) there o))

  module _ (c d : Cell) (cs ds : List Cell) (first : old ≡ c ∷ cs) (second : new ≡ d ∷ ds) where
    both_there : IsOrdered write_place (ws ++ difference (c ∷ cs) (d ∷ ds))
    both_there = subst (λ xs. IsOrdered write_place (ws ++ difference (c ∷ cs) xs)) second (subst (λ xs. IsOrdered write_place (ws ++ difference xs new)) first o)

    chosen_ordered : (r : Ordering) → place_order (cell_place c) (cell_place d) ≡ r
        → IsOrdered write_place (ws ++ by_order r (dropped c ∷ difference cs (d ∷ ds)) (put_other c d (difference cs ds)) (put d ∷ difference (c ∷ cs) ds))
    chosen_ordered r is =
        subst (λ q. IsOrdered write_place (ws ++ by_order q (dropped c ∷ difference cs (d ∷ ds)) (put_other c d (difference cs ds)) (put d ∷ difference (c ∷ cs) ds))) is both_there

    pub drop_before : place_order (cell_place c) (cell_place d) ≡ Less → IsOrdered write_place (ws ++ dropped c ∷ [])
    drop_before is = front_ordered ws (dropped c) (difference cs (d ∷ ds)) (chosen_ordered Less is)

    pub put_before : place_order (cell_place c) (cell_place d) ≡ Greater → IsOrdered write_place (ws ++ put d ∷ [])
    put_before is = front_ordered ws (put d) (difference (c ∷ cs) ds) (chosen_ordered Greater is)

    pub put_instead_ordered : place_order (cell_place c) (cell_place d) ≡ Equal → IsOrdered write_place (ws ++ put_other c d [])
    put_instead_ordered is = by (same_text c.text d.text) (chosen_ordered Equal is)
      where
        by : (b : Bool) → IsOrdered write_place (ws ++ cond b (difference cs ds) (put d ∷ difference cs ds)) → IsOrdered write_place (ws ++ cond b [] (put d ∷ []))
        by true h = fewer_ordered ws (difference cs ds) h
        by false h = front_ordered ws (put d) (difference cs ds) h

-- where none is left, all are there
pub none_differ : (was is old new : List Cell) (ws : List Write) → ws ++ difference old new ≡ difference was is → length old ≡ 0 → length new ≡ 0 → ws ≡ difference was is
none_differ was is old new ws whole none_old none_new =
    let W : List Cell → List Cell → Type 0 = λ xs ys. ws ++ difference xs ys ≡ difference was is in
    let at_end : ws ++ [] ≡ difference was is = subst (W []) (none_there new none_new) (subst (λ xs. W xs new) (none_there old none_old) whole) in
    sym (append-nil ws) ∙ at_end

pub all_differ : (was is old new : List Cell) (ws : List Write) → IsOrdered cell_place was → IsOrdered cell_place is → ws ++ difference old new ≡ difference was is
    → length old ≡ 0 → length new ≡ 0 → LeadsTo was is ws
all_differ was is old new ws o q whole none_old none_new =
    subst (LeadsTo was is) (sym (none_differ was is old new ws whole none_old none_new)) (leads_to was is o q)
