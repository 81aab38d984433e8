-- Rows in a tree are set, taken away and found as those of a list are.
use Rattle.std.proofs.Common.{◌≡◌, ℕ, Bool, true, false, ◌&&◌, cond, List, [], ◌∷◌, ◌++◌, Option, Some, filter, find, refl, sym, ap, ◌∙◌, subst}
use Rattle.std.specs.declared.cmp.Ordering.{Ordering}
use Rattle.std.specs.declared.cmp.Ordering.TheVariants.{Less, Equal, Greater}
use Rattle.std.specs.BTreeMap.{insert_entry, is_at}
use Rattle.std.specs.Cmp.{IsTotalOrder, then_total, tied_then}
use Rattle.std.specs.Cmp.Lexicographic.{nat_list_eq_equiv, on_texts, texts_ties, same_text as text_is}
use Rattle.std.specs.List.{AllByRecursion}
use Rattle.std.specs.List.Sorted.{IsStrictlySortedBy}
use Rattle.std.specs.Map.{keys_of, lookup, remove_entry}
use Rattle.std.specs.Option.{option_map}
use Rattle.std.specs.Ordering.{is_eq, match_ordering, on, ordering_then, then_cmp}
use Rattle.std.proofs.lemmas.Map.{NonePasses}
use Rattle.std.proofs.lemmas.Map.Entries.{none_below_head}
use Rattle.lang_base.specs.Texts.{same_text, text_order}
use Rattle.lang_core.specs.Places.{IsBelowAll, IsOrdered, Place, by_order, place_of, same_place, set_in, unset_in}
use Rattle.lang_core.specs.Rows.{cell_place, get}
use Rattle.lang_core.specs.declared.cells.Cell.{Cell}
use Rattle.lang_core.proofs.RowLemmas.{ordered-filter}
use Rattle.lang_rows.specs.RowTrees.{cell_of, cells_of}
use Rattle.lang_rows.specs.declared.spot.Spot.{Spot}

abbrev pub Entry : Type 0
Entry = Spot × List ℕ

-- the order of the tree, and that of the list
abbrev pub spot_order : Spot → Spot → Ordering
spot_order = then_cmp (on (λ (s : Spot). s.table) text_order) (on (λ (s : Spot). s.key) text_order)

abbrev spot_place : Spot → Place
spot_place s = place_of s.table s.key

total : IsTotalOrder spot_order
total = then_total (on_texts (λ (s : Spot). s.table)) (on_texts (λ (s : Spot). s.key))

-- ---- what the order doesn't tell apart

tied_text : (a b : List ℕ) → text_order a b ≡ Equal → a ≡ b
tied_text a b h = text_is a b (sym (texts_ties a b ∙ ap is_eq h))

tied_both : (o p : Ordering) → ordering_then o p ≡ Equal → (o ≡ Equal) × (p ≡ Equal)
tied_both Less p h = absurd cc
tied_both Equal p h = (refl, h)
tied_both Greater p h = absurd cc

same_cell : (p q : Spot) (text : List ℕ) → spot_order p q ≡ Equal → cell_of (p, text) ≡ cell_of (q, text)
same_cell p q text h =
    let parts = tied_both (text_order p.table q.table) (text_order p.key q.key) h in
    let first : cell_of (p, text) ≡ record { table = q.table; key = p.key; text = text } =
    ap (λ (t : List ℕ). record { table = t; key = p.key; text = text }) (tied_text p.table q.table parts.0) in
    first ∙ ap (λ (k : List ℕ). record { table = q.table; key = k; text = text }) (tied_text p.key q.key parts.1)

same_test : (q p : Spot) → is_at (spot_order q) p ≡ same_place (spot_place p) (spot_place q)
same_test q p =
    sym (tied_then (text_order q.table p.table) (text_order q.key p.key))
    ∙ ap (λ (b : Bool). b && is_eq (text_order q.key p.key)) (sym (texts_ties q.table p.table) ∙ nat_list_eq_equiv.symm q.table p.table)
    ∙ ap (λ (b : Bool). same_text p.table q.table && b) (sym (texts_ties q.key p.key) ∙ nat_list_eq_equiv.symm q.key p.key)

-- ---- set

set_by : (s : Spot) (text : List ℕ) (e : Entry) (es : List Entry) (o : Ordering) → spot_order s e.0 ≡ o
    → cells_of (insert_entry spot_order es s text) ≡ set_in cell_place (cell_of (s, text)) (cells_of es)
    → cells_of (match_ordering o ((s, text) ∷ e ∷ es) ((e.0, text) ∷ es) (e ∷ insert_entry spot_order es s text))
    ≡ by_order o (cell_of (s, text) ∷ cell_of e ∷ cells_of es) (cell_of (s, text) ∷ cells_of es) (cell_of e ∷ set_in cell_place (cell_of (s, text)) (cells_of es))
set_by s text e es Less h rest = refl
set_by s text e es Equal h rest = ap (λ (c : Cell). c ∷ cells_of es) (sym (same_cell s e.0 text h))
set_by s text e es Greater h rest = ap (λ (cells : List Cell). cell_of e ∷ cells) rest

pub set_so : (s : Spot) (text : List ℕ) (es : List Entry) → cells_of (insert_entry spot_order es s text) ≡ set_in cell_place (cell_of (s, text)) (cells_of es)
set_so s text [] = refl
set_so s text (e ∷ es) = set_by s text e es (spot_order s e.0) refl (set_so s text es)

-- ---- taken away

none_gone : (test : Spot → Bool) (es : List Entry) → NonePasses test es → remove_entry test es ≡ es
none_gone test [] none = refl
none_gone test (e ∷ es) none =
    ap (λ (b : Bool). cond b es (e ∷ remove_entry test es)) none.0 ∙ ap (λ (rest : List Entry). e ∷ rest) (none_gone test es none.1)

unset_by : (q : Spot) (e : Entry) (es : List Entry) (o : Ordering) → (o ≡ Less → remove_entry (is_at (spot_order q)) es ≡ es)
    → cells_of (remove_entry (is_at (spot_order q)) es) ≡ unset_in cell_place (spot_place q) (cells_of es)
    → cells_of (cond (is_eq o) es (e ∷ remove_entry (is_at (spot_order q)) es))
    ≡ by_order o (cell_of e ∷ cells_of es) (cells_of es) (cell_of e ∷ unset_in cell_place (spot_place q) (cells_of es))
unset_by q e es Less none rest = ap (λ (l : List Entry). cell_of e ∷ cells_of l) (none refl)
unset_by q e es Equal none rest = refl
unset_by q e es Greater none rest = ap (λ (cells : List Cell). cell_of e ∷ cells) rest

later_sorted : (e : Entry) (es : List Entry) → IsStrictlySortedBy spot_order (keys_of (e ∷ es)) → IsStrictlySortedBy spot_order (keys_of es)
unfolding IsStrictlySortedBy
later_sorted e es sorted = sorted.1

pub unset_so : (q : Spot) (es : List Entry) → IsStrictlySortedBy spot_order (keys_of es)
    → cells_of (remove_entry (is_at (spot_order q)) es) ≡ unset_in cell_place (spot_place q) (cells_of es)
unset_so q [] sorted = refl
unset_so q (e ∷ es) sorted =
    unset_by q e es (spot_order q e.0)
    (λ less. none_gone (is_at (spot_order q)) es (none_below_head total q e es sorted less).1)
    (unset_so q es (later_sorted e es sorted))

-- ---- found

found_by : (b : Bool) (e : Entry) (text : Option (List ℕ)) (cell : Option Cell) → text ≡ option_map (λ (c : Cell). c.text) cell
    → cond b (Some e.1) text ≡ option_map (λ (c : Cell). c.text) (cond b (Some (cell_of e)) cell)
found_by true e text cell h = refl
found_by false e text cell h = h

pub found_so : (q : Spot) (es : List Entry) → lookup (is_at (spot_order q)) es ≡ get (cells_of es) q.table q.key
found_so q [] = refl
found_so q (e ∷ es) =
    ap (λ (b : Bool). cond b (Some e.1) (lookup (is_at (spot_order q)) es)) (same_test q e.0)
    ∙ found_by (same_place (spot_place e.0) (spot_place q)) e (lookup (is_at (spot_order q)) es) (find (λ c. same_place (cell_place c) (spot_place q)) (cells_of es)) (found_so q es)

-- ---- in order

below_so : (s : Spot) (es : List Entry) → AllByRecursion (λ k. spot_order s k ≡ Less) (keys_of es) → IsBelowAll cell_place (spot_place s) (cells_of es)
below_so s [] all = tt
below_so s (e ∷ es) all = (all.0, below_so s es all.1)

pub ordered_so : (es : List Entry) → IsStrictlySortedBy spot_order (keys_of es) → IsOrdered cell_place (cells_of es)
unfolding IsStrictlySortedBy
ordered_so [] sorted = tt
ordered_so (e ∷ es) sorted = (below_so e.0 es sorted.0, ordered_so es sorted.1)

below_front : (p : Place) (xs : List Cell) (y : Cell) (ys : List Cell) → IsBelowAll cell_place p (xs ++ y ∷ ys) → IsBelowAll cell_place p (xs ++ y ∷ [])
below_front p [] y ys all = (all.0, tt)
below_front p (x ∷ xs) y ys all = (all.0, below_front p xs y ys all.1)

-- rows up to one of them are in order where all are
pub front_ordered : (xs : List Cell) (y : Cell) (ys : List Cell) → IsOrdered cell_place (xs ++ y ∷ ys) → IsOrdered cell_place (xs ++ y ∷ [])
front_ordered [] y ys o = (tt, tt)
front_ordered (x ∷ xs) y ys o = (below_front (cell_place x) xs y ys o.0, front_ordered xs y ys o.1)

-- ---- under a prefix

kept_twice : (p : Cell → Bool) (b : Bool) (c : Cell) (cells : List Cell) → p c ≡ b → filter p (filter p cells) ≡ filter p cells
    → filter p (cond b (c ∷ filter p cells) (filter p cells)) ≡ cond b (c ∷ filter p cells) (filter p cells)
kept_twice p true c cells is rest =
    ap (λ (b : Bool). cond b (c ∷ filter p (filter p cells)) (filter p (filter p cells))) is ∙ ap (λ (l : List Cell). c ∷ l) rest
kept_twice p false c cells is rest = rest

pub filter_twice : (p : Cell → Bool) (cells : List Cell) → filter p (filter p cells) ≡ filter p cells
filter_twice p [] = refl
filter_twice p (c ∷ cells) = kept_twice p (p c) c cells refl (filter_twice p cells)

-- rows with one more are in order where it is the next of those that a test keeps
pub kept_ordered : (p : Cell → Bool) (xs : List Cell) (y : Cell) (ys all : List Cell) → IsOrdered cell_place all → xs ++ filter p (y ∷ ys) ≡ filter p all → p y ≡ true
    → IsOrdered cell_place (xs ++ y ∷ [])
kept_ordered p xs y ys all o e kept =
    let next : filter p (y ∷ ys) ≡ y ∷ filter p ys = ap (λ (b : Bool). cond b (y ∷ filter p ys) (filter p ys)) kept in
    let whole : filter p all ≡ xs ++ y ∷ filter p ys = sym e ∙ ap (λ (l : List Cell). xs ++ l) next in
    front_ordered xs y (filter p ys) (subst (IsOrdered cell_place) whole (ordered-filter p all o))
