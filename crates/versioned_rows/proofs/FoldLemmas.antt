-- The first places leave: what their labels and texts come to in the rows.
use Rattle.std.proofs.Common.{◌≡◌, ℕ, zero, suc, ◌+◌, ◌<◌, ◌≤◌, Bool, true, false, not, ◌||◌, cond, List, [], ◌∷◌, ◌++◌, Option, Some, None, length, get_or, take, drop, map, refl, sym, ap, ◌∙◌, subst, inl, inr, arith, add-one}
use Rattle.std.specs.List.{filter, find, AllByRecursion, Contains}
use Rattle.std.specs.Option.{option_map_or, ForSome}
use Rattle.std.proofs.lemmas.Bool.{cases_lt, lt-ltb, le-ltb}
use Rattle.std.proofs.lemmas.List.{flat_map_more, length-map, take_at, drop_at, take_more, take-append-drop}
use Rattle.std.proofs.lemmas.List.Elements.{filter-append}
use Rattle.std.proofs.lemmas.List.Folds.{list_any_more}
use Rattle.std.proofs.lemmas.List.Sums.{fold-append}
use Rattle.lang_core.specs.Places.{place_of, same_place, IsOrdered}
use Rattle.lang_core.specs.Rows.{apply, cell_place, get, write_place, written}
use Rattle.lang_core.specs.declared.cells.Cell.{Cell}
use Rattle.lang_core.specs.declared.writes.Write.{Write}
use Rattle.lang_core.proofs.ReadLemmas.{get-apply}
use Rattle.place_order.specs.Labels.{place_in}
use Rattle.place_order.specs.Rising.{IsBeforeAll, IsRising, is_before}
use Rattle.key_labels.specs.Labels.{behind, IsApart}
use Rattle.key_labels.specs.Rows.{base_in, has_row, labels_in, row_place}
use Rattle.key_labels.specs.declared.rows.KeyLabels.{KeyLabels}
use Rattle.key_labels.proofs.ListLemmas.{all_kept}
use Rattle.key_labels.proofs.RisingLemmas.{filter_rest, rising_kept}
use Rattle.versioned_rows.specs.Places.{is_written, is_written_by, label_behind, label_of, rows_after, texts_of, writers}
use Rattle.versioned_rows.specs.Versions.{base_cells, IsIndexed}
use Rattle.versioned_rows.specs.declared.places.PlaceWrites.{PlaceWrites}
use Rattle.versioned_rows.proofs.BaseLemmas.{get_base, ordered_base, same_cells}
use Rattle.versioned_rows.proofs.CellLemmas.{rows_ordered}
use Rattle.versioned_rows.proofs.IndexLemmas.{apart_kept, writers_kept}

-- ---- one place more

kept_if : (p : ℕ → Bool) (x : ℕ) (xs : List ℕ) (b : Bool) → p x ≡ b → filter p xs ≡ xs → filter p (cond b (x ∷ xs) xs) ≡ cond b (x ∷ xs) xs
kept_if p x xs true e h = rw e (ap (λ l. x ∷ l) h)
kept_if p x xs false e h = h

-- what a filter keeps it keeps again
filter_again : (p : ℕ → Bool) (xs : List ℕ) → filter p (filter p xs) ≡ filter p xs
filter_again p [] = refl
filter_again p (x ∷ xs) = kept_if p x (filter p xs) (p x) refl (filter_again p xs)

settled_by : (p : ℕ → Bool) (a b : Bool) (x y z : List ℕ) → y ≡ cond a (filter p x) x → z ≡ cond b (filter p y) y → z ≡ cond (a || b) (filter p x) x
settled_by p true true x y z first second = second ∙ ap (filter p) first ∙ filter_again p x
settled_by p true false x y z first second = second ∙ first
settled_by p false true x y z first second = second ∙ ap (filter p) first
settled_by p false false x y z first second = second ∙ first

module _ (qs : List PlaceWrites) (i : ℕ) (q : PlaceWrites) (lt : i < length qs) (is : q ≡ get_or qs i q) where
  pub settled_more : (order : List ℕ) (end : Option ℕ) (t k start before after : List ℕ) → before ≡ cond (is_written_by t k (take i qs)) (behind order end start) start
      → after ≡ cond (is_written t k q.writes) (behind order end before) before → after ≡ cond (is_written_by t k (take (i + 1) qs)) (behind order end start) start
  settled_more order end t k start before after first second =
      let more : is_written_by t k (take (i + 1) qs) ≡ (is_written_by t k (take i qs) || is_written t k q.writes) =
      list_any_more (λ (p : PlaceWrites). is_written t k p.writes) qs i q lt ∙ ap (λ (p : PlaceWrites). is_written_by t k (take i qs) || is_written t k p.writes) (sym is) in
      settled_by (λ x. not (is_before order end x)) (is_written_by t k (take i qs)) (is_written t k q.writes) start before after first second
      ∙ ap (λ b. cond b (behind order end start) start) (sym more)

  next_place : take (i + 1) qs ≡ take i qs ++ q ∷ []
  next_place = take_more qs i q lt ∙ ap (λ p. take i qs ++ p ∷ []) (sym is)

  pub texts_more : texts_of (take (i + 1) qs) ≡ texts_of (take i qs) ++ map (λ (w : Write). w.text) q.writes
  texts_more = ap texts_of next_place ∙ sym (flat_map_more (λ (p : PlaceWrites). map (λ (w : Write). w.text) p.writes) [] (take i qs) q)

  pub based_more : (base : List Cell) (t k : List ℕ) (before after : Option (List ℕ)) → IsOrdered cell_place base → IsOrdered write_place q.writes
      → before ≡ get (rows_after base (take i qs)) t k → after ≡ written q.writes t k before → after ≡ get (rows_after base (take (i + 1) qs)) t k
  based_more base t k before after ordered writes first second =
      let rows = rows_after base (take i qs) in
      let next : rows_after base (take (i + 1) qs) ≡ apply rows q.writes = ap (rows_after base) next_place ∙ fold-append (λ rows (p : PlaceWrites). apply rows p.writes) base (take i qs) (q ∷ []) in
      second ∙ ap (written q.writes t k) first ∙ sym (get-apply rows q.writes t k (rows_ordered (take i qs) base ordered) writes) ∙ ap (λ l. get l t k) (sym next)

  texts_split : texts_of (drop i qs) ≡ map (λ (w : Write). w.text) q.writes ++ texts_of (drop (i + 1) qs)
  texts_split = ap texts_of (rest_of qs i q lt is)
    where
      rest_of : (qs : List PlaceWrites) (i : ℕ) (q : PlaceWrites) → i < length qs → q ≡ get_or qs i q → drop i qs ≡ q ∷ drop (i + 1) qs
      rest_of [] i q lt is = absurd (omega (arith, lt))
      rest_of (x ∷ xs) zero q lt is = ap (λ z. z ∷ xs) (sym is)
      rest_of (x ∷ xs) (suc i) q lt is = rw add-one (let e = rest_of xs i q (omega (arith, lt)) is in rw add-one at e)

  pub texts_first : (texts : List (Option (List ℕ))) → texts ≡ texts_of (drop i qs) → take (length q.writes) texts ≡ map (λ (w : Write). w.text) q.writes
  texts_first texts are =
      ap (take (length q.writes)) (are ∙ texts_split) ∙ take_at (map (λ (w : Write). w.text) q.writes) (texts_of (drop (i + 1) qs)) (length q.writes) (length-map q.writes (λ (w : Write). w.text))

  pub texts_left : (texts : List (Option (List ℕ))) → texts ≡ texts_of (drop i qs) → drop (length q.writes) texts ≡ texts_of (drop (i + 1) qs)
  texts_left texts are =
      ap (drop (length q.writes)) (are ∙ texts_split) ∙ drop_at (map (λ (w : Write). w.text) q.writes) (texts_of (drop (i + 1) qs)) (length q.writes) (length-map q.writes (λ (w : Write). w.text))

-- ---- all of them

later_place : (order : List ℕ) (x : ℕ) (ps : List PlaceWrites) (i : ℕ) (d : PlaceWrites) → IsBeforeAll order x (map label_of ps) → i < length ps → place_in order x < place_in order (label_of (get_or ps i d))
later_place order x [] i d all lt = absurd (omega (arith, lt))
later_place order x (p ∷ ps) zero d all lt = all.0
later_place order x (p ∷ ps) (suc i) d all lt = later_place order x ps i d all.1 (omega (arith, lt))

rises : (order : List ℕ) (ps : List PlaceWrites) (i j : ℕ) (d e : PlaceWrites) → IsRising order (map label_of ps) → i < j → j < length ps → place_in order (label_of (get_or ps i d)) < place_in order (label_of (get_or ps j e))
rises order [] i j d e r lt within = absurd (omega (arith, within))
rises order (p ∷ ps) i zero d e r lt within = absurd (omega (arith, lt))
rises order (p ∷ ps) zero (suc j) d e r lt within = later_place order p.label ps j e r.1 (omega (arith, within))
rises order (p ∷ ps) (suc i) (suc j) d e r lt within = rises order ps i j d e r.2 (omega (arith, lt)) (omega (arith, within))

none_behind : (n : ℕ) (ps : List PlaceWrites) → length ps ≤ n → label_behind n ps ≡ None
none_behind zero [] le = refl
none_behind (suc n) [] le = refl
none_behind zero (p ∷ ps) le = absurd (omega (arith, le))
none_behind (suc n) (p ∷ ps) le = none_behind n ps (omega (arith, le))

some_behind : (n : ℕ) (ps : List PlaceWrites) (d : PlaceWrites) → n < length ps → label_behind n ps ≡ Some (label_of (get_or ps n d))
some_behind n [] d lt = absurd (omega (arith, lt))
some_behind zero (p ∷ ps) d lt = refl
some_behind (suc n) (p ∷ ps) d lt = some_behind n ps d (omega (arith, lt))

module _ (order : List ℕ) (ps : List PlaceWrites) (n : ℕ) (rising : IsRising order (map label_of ps)) (within : n ≤ length ps) where
  abbrev end : Option ℕ
  end = label_behind n ps

  passes : (i : ℕ) (d : PlaceWrites) → i < n → is_before order end (label_of (get_or ps i d)) ≡ true
  passes i d lt = elim (cases_lt n (length ps)) [
    | inl some ↦ ap (λ o. is_before order o (label_of (get_or ps i d))) (some_behind n ps d some)
        ∙ lt-ltb (place_in order (label_of (get_or ps i d))) (place_in order (label_of (get_or ps n d))) (rises order ps i n d d rising lt some)
    | inr none ↦ ap (λ o. is_before order o (label_of (get_or ps i d))) (none_behind n ps none)
  ]

  at_or_behind : (i : ℕ) (d : PlaceWrites) → n ≤ i → i < length ps → place_in order (label_of (get_or ps n d)) ≤ place_in order (label_of (get_or ps i d))
  at_or_behind i d from lt = elim (cases_lt n i) [
    | inl less ↦ (let up = rises order ps n i d d rising less lt in omega (arith, up))
    | inr same ↦ (let e : n ≡ i = omega (arith, same, from) in let is = ap (λ k. place_in order (label_of (get_or ps k d))) e in omega (arith, is))
  ]

  fails : (i : ℕ) (d : PlaceWrites) → n ≤ i → i < length ps → is_before order end (label_of (get_or ps i d)) ≡ false
  fails i d from lt =
      ap (λ o. is_before order o (label_of (get_or ps i d))) (some_behind n ps d (omega (arith, from, lt)))
      ∙ le-ltb (place_in order (label_of (get_or ps i d))) (place_in order (label_of (get_or ps n d))) (at_or_behind i d from lt)

  left_is : filter (λ p. not (is_before order end (label_of p))) ps ≡ drop n ps
  left_is = filter_rest (λ p. is_before order end (label_of p)) ps n within passes fails

  writers_left : (t k : List ℕ) → behind order end (writers t k ps) ≡ writers t k (drop n ps)
  writers_left t k = sym (writers_kept (λ y. not (is_before order end y)) t k ps) ∙ ap (writers t k) left_is

  none_wrote : (t k : List ℕ) (qs : List PlaceWrites) → is_written_by t k qs ≡ false → filter (λ (p : PlaceWrites). is_written t k p.writes) qs ≡ []
  none_wrote t k qs h = by qs h
    where
      or_first : (a b : Bool) → (a || b) ≡ false → a ≡ false
      or_first true b h = cc
      or_first false b h = refl

      or_rest : (a b : Bool) → (a || b) ≡ false → b ≡ false
      or_rest true b h = cc
      or_rest false b h = h

      by : (qs : List PlaceWrites) → is_written_by t k qs ≡ false → filter (λ (p : PlaceWrites). is_written t k p.writes) qs ≡ []
      by [] h = refl
      by (q ∷ qs) h = let here = or_first (is_written t k q.writes) (is_written_by t k qs) h in rw here (by qs (or_rest (is_written t k q.writes) (is_written_by t k qs) h))

  unwritten_first : (t k : List ℕ) → is_written_by t k (take n ps) ≡ false → writers t k ps ≡ writers t k (drop n ps)
  unwritten_first t k h =
      ap (writers t k) (sym (take-append-drop n ps))
      ∙ ap (map label_of) (filter-append (λ (p : PlaceWrites). is_written t k p.writes) (take n ps) (drop n ps) ∙ ap (λ l. l ++ filter (λ (p : PlaceWrites). is_written t k p.writes) (drop n ps)) (none_wrote t k (take n ps) h))

  left_by : (t k labels : List ℕ) (b : Bool) → is_written_by t k (take n ps) ≡ b → labels ≡ cond b (behind order end (writers t k ps)) (writers t k ps) → labels ≡ writers t k (drop n ps)
  left_by t k labels true e h = h ∙ writers_left t k
  left_by t k labels false e h = h ∙ unwritten_first t k e

  -- the rows name at each key the places that are left
  pub fold_indexed : (rows after : List KeyLabels) → IsIndexed ps rows → IsOrdered row_place after
      → ((t k : List ℕ) → labels_in after t k ≡ cond (is_written_by t k (take n ps)) (behind order end (labels_in rows t k)) (labels_in rows t k)) → IsIndexed (drop n ps) after
  fold_indexed rows after was ordered each =
      let P : List PlaceWrites → Type 0 = λ l. AllByRecursion (λ (p : PlaceWrites). IsOrdered write_place p.writes) l in
      let Q : List PlaceWrites → Type 0 = λ l. IsApart (map label_of l) in
      record {
        apart = subst Q left_is (apart_kept (λ y. not (is_before order end y)) ps was.apart);
        writes = subst P left_is (all_kept (λ (p : PlaceWrites). IsOrdered write_place p.writes) (λ p. not (is_before order end (label_of p))) ps was.writes);
        ordered = ordered;
        each = λ t k. left_by t k (labels_in after t k) (is_written_by t k (take n ps)) refl
            (each t k ∙ ap (λ l. cond (is_written_by t k (take n ps)) (behind order end l) l) (was.each t k));
      }

-- the texts that stand before all labels are the rows that the first places left
pub fold_base : (rows after : List KeyLabels) (qs : List PlaceWrites) → IsOrdered row_place rows → IsOrdered row_place after
    → ((t k : List ℕ) → base_in after t k ≡ get (rows_after (base_cells rows) qs) t k) → base_cells after ≡ rows_after (base_cells rows) qs
fold_base rows after qs was ordered bases =
    same_cells (base_cells after) (rows_after (base_cells rows) qs) (ordered_base after ordered) (rows_ordered qs (base_cells rows) (ordered_base rows was)) (λ t k. get_base after ordered t k ∙ bases t k)

-- ---- what each step asks

some_kept : (p : PlaceWrites → Bool) (ps : List PlaceWrites) (i : ℕ) (q : PlaceWrites) → i < length ps → q ≡ get_or ps i q → p q ≡ true → 0 < length (filter p ps)
some_kept p [] i q lt is h = absurd (omega (arith, lt))
some_kept p (x ∷ xs) zero q lt is h = let here : p x ≡ true = ap p (sym is) ∙ h in rw here (omega arith)
some_kept p (x ∷ xs) (suc i) q lt is h = more_by (p x) (some_kept p xs i q (omega (arith, lt)) is h)
  where
    more_by : (b : Bool) → 0 < length (filter p xs) → 0 < length (cond b (x ∷ filter p xs) (filter p xs))
    more_by true h = omega arith
    more_by false h = h

has_by : (o : Option KeyLabels) → 0 < length (option_map_or (λ (r : KeyLabels). r.labels.items) o []) → option_map_or (λ (r : KeyLabels). true) o false ≡ true
has_by None some = absurd (omega (arith, some))
has_by (Some r) some = refl

-- a key that a place writes has a row
pub row_of_writer : (ps : List PlaceWrites) (rows : List KeyLabels) (i : ℕ) (q : PlaceWrites) (t k : List ℕ) → IsIndexed ps rows → i < length ps → q ≡ get_or ps i q → is_written t k q.writes ≡ true → has_row rows t k ≡ true
row_of_writer ps rows i q t k indexed lt is wrote =
    let kept = some_kept (λ (p : PlaceWrites). is_written t k p.writes) ps i q lt is wrote in
    let long = ap length (indexed.each t k) ∙ length-map (filter (λ (p : PlaceWrites). is_written t k p.writes) ps) label_of in
    has_by (find (λ r. same_place (row_place r) (place_of t k)) rows) (omega (arith, kept, long))

-- the labels of a key rise, settled or not
pub settled_rising : (order : List ℕ) (until : Option ℕ) (ps : List PlaceWrites) (rows : List KeyLabels) (t k labels : List ℕ) (b : Bool) → IsIndexed ps rows → IsRising order (map label_of ps)
    → labels ≡ cond b (behind order until (labels_in rows t k)) (labels_in rows t k) → IsRising order labels
settled_rising order until ps rows t k labels true indexed rising is =
    let P : List ℕ → Type 0 = λ l. IsRising order l in
    let f : ℕ → Bool = λ y. not (is_before order until y) in
    let same : labels ≡ writers t k (filter (λ p. f (label_of p)) ps) = is ∙ ap (behind order until) (indexed.each t k) ∙ sym (writers_kept f t k ps) in
    subst P (sym same) (rising_kept label_of order (λ p. is_written t k p.writes) (filter (λ p. f (label_of p)) ps) (rising_kept label_of order (λ p. f (label_of p)) ps rising))
settled_rising order until ps rows t k labels false indexed rising is =
    let P : List ℕ → Type 0 = λ l. IsRising order l in
    subst P (sym (is ∙ indexed.each t k)) (rising_kept label_of order (λ p. is_written t k p.writes) ps rising)

-- the label behind so many is one of the order
pub end_known : (order : List ℕ) (n : ℕ) (ps : List PlaceWrites) → IsRising order (map label_of ps) → ForSome (label_behind n ps) (Contains order)
end_known order zero [] r = λ x e. cc
end_known order (suc n) [] r = λ x e. cc
end_known order zero (p ∷ ps) r = λ x e.
    let same : p.label ≡ x = cc in
    let P : ℕ → Type 0 = λ n. Contains order n in
    subst P same r.0
end_known order (suc n) (p ∷ ps) r = end_known order n ps r.2

-- the labels that are left rise
pub rising_left : (order : List ℕ) (n : ℕ) (ps : List PlaceWrites) → IsRising order (map label_of ps) → IsRising order (map label_of (drop n ps))
rising_left order zero ps r = r
rising_left order (suc n) [] r = r
rising_left order (suc n) (p ∷ ps) r = rising_left order n ps r.2
