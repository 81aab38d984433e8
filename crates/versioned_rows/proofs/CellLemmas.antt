-- Rows that have a key for each cell give all cells.
use Rattle.std.proofs.Common.{◌≡◌, ℕ, zero, suc, ◌+◌, ◌<◌, ◌≤◌, Bool, true, false, cond, List, [], ◌∷◌, ◌++◌, Option, Some, None, is_some, option_map, length, get_or, take, drop, map, fold, refl, sym, ap, ◌∙◌, subst, inl, inr, arith, add-one, length-append, append_assoc}
use Rattle.std.specs.declared.cmp.Ordering.TheVariants.{Less}
use Rattle.std.specs.List.{filter, find}
use Rattle.std.specs.Option.{option_map_or}
use Rattle.std.proofs.lemmas.Bool.{cases_Bool}
use Rattle.std.proofs.lemmas.List.{append-nil, get_or_at, take_more}
use Rattle.lang_core.specs.Places.{Place, place_of, place_order, same_place, IsBelowAll, IsOrdered, rank}
use Rattle.lang_core.specs.Rows.{get, apply, cell_place, cell_size, is_beneath, is_over, kept_from, scan}
use Rattle.lang_core.specs.declared.cells.Cell.{Cell}
use Rattle.lang_core.proofs.RowLemmas.{ordered-kept, ordered-apply}
use Rattle.place_order.specs.Rising.{IsRising}
use Rattle.versioned_rows.specs.Places.{label_of, rows_after, before, writers}
use Rattle.key_labels.specs.Rows.{row_place, labels_in, base_in}
use Rattle.versioned_rows.specs.Versions.{IsIndexed}
use Rattle.versioned_rows.specs.Scans.{beneath, is_under, while, cell_at, with_cell, row_cells}
use Rattle.key_labels.specs.declared.rows.KeyLabels.{KeyLabels}
use Rattle.versioned_rows.specs.declared.places.PlaceWrites.{PlaceWrites}
use Rattle.key_labels.proofs.EditLemmas.{found_passes}
use Rattle.lang_core.proofs.ReadLemmas.{place_is}
use Rattle.versioned_rows.proofs.GetLemmas.{get_nothing}
use Rattle.versioned_rows.proofs.PrefixLemmas.{under_together, same_ordered}

-- the cell at a place
abbrev pub at : Place → List Cell → Option Cell
at p cells = find (λ c. same_place (cell_place c) p) cells

abbrev pub cell_of : Place → List ℕ → Cell
cell_of p x = record { table = p.table; key = p.key; text = x }

is_cell : (p : Place) (c : Cell) → cell_place c ≡ p → c ≡ cell_of p c.text
is_cell p c e = ap (λ q. cell_of q c.text) e

at_by : (p : Place) (cells : List Cell) (o : Option Cell) → at p cells ≡ o → o ≡ option_map (cell_of p) (option_map (λ (c : Cell). c.text) o)
at_by p cells None e = refl
at_by p cells (Some c) e = ap Some (is_cell p c (place_is (cell_place c) p (found_passes (λ c. same_place (cell_place c) p) cells c e)))

-- a cell is its place and what is read there
pub at_is : (p : Place) (cells : List Cell) → at p cells ≡ option_map (cell_of p) (get cells p.table p.key)
at_is p cells = at_by p cells (at p cells) refl

cell_here : (cells : List Cell) (r : KeyLabels) (p : Place) → row_place r ≡ p → cell_at cells r ≡ at p cells
cell_here cells r p e = ap (λ (q : Place). option_map (cell_of q) (get cells q.table q.key)) e ∙ sym (at_is p cells)

cell_stands : (cells : List Cell) (r : KeyLabels) (c : Cell) → cell_at cells r ≡ Some c → cell_place c ≡ row_place r
cell_stands cells r c e = by (get cells r.table r.key) e
  where
    by : (o : Option (List ℕ)) → option_map (cell_of (row_place r)) o ≡ Some c → cell_place c ≡ row_place r
    by None e = cc
    by (Some x) e = let same : cell_of (row_place r) x ≡ c = cc in sym (ap cell_place same)

some_if : (b : Bool) (r : KeyLabels) (o : Option KeyLabels) → is_some (cond b (Some r) o) ≡ cond b true (is_some o)
some_if true r o = refl
some_if false r o = refl

none_either : {X : Type 0} (b : Bool) → cond {A = Option X} b None None ≡ None
none_either true = refl
none_either false = refl

here_by : (p : Place) (cells rest : List Cell) (o : Option Cell) (b : Bool) → at p cells ≡ o → at p rest ≡ cond b (at p cells) None → at p (with_cell o rest) ≡ o
here_by p cells rest None b e more = more ∙ ap (λ z. cond b z None) e ∙ none_either b
here_by p cells rest (Some c) b e more =
    let passes : same_place (cell_place c) p ≡ true = found_passes (λ c. same_place (cell_place c) p) cells c e in
    rw passes refl

apart_by : (cells rest : List Cell) (r : KeyLabels) (p : Place) (o : Option Cell) → cell_at cells r ≡ o → same_place (row_place r) p ≡ false → at p (with_cell o rest) ≡ at p rest
apart_by cells rest r p None e apart = refl
apart_by cells rest r p (Some c) e apart =
    let differs : same_place (cell_place c) p ≡ false = ap (λ q. same_place q p) (cell_stands cells r c e) ∙ apart in
    rw differs refl

-- the cells at the keys of rows are those that are there and have a row
at_rows : (p : Place) (cells : List Cell) (rows : List KeyLabels) → at p (row_cells cells rows) ≡ cond (is_some (find (λ r. same_place (row_place r) p) rows)) (at p cells) None
at_rows p cells [] = refl
at_rows p cells (r ∷ rs) = elim (cases_Bool (same_place (row_place r) p)) [
  | inl e ↦ (let same : cell_at cells r ≡ at p cells = cell_here cells r p (place_is (row_place r) p e) in
      rw e (ap (λ o. at p (with_cell o (row_cells cells rs))) same ∙ here_by p cells (row_cells cells rs) (at p cells) (is_some (find (λ r. same_place (row_place r) p) rs)) refl (at_rows p cells rs)))
  | inr e ↦ rw e (apart_by cells (row_cells cells rs) r p (cell_at cells r) refl e ∙ at_rows p cells rs)
]

below_by : (cells rest : List Cell) (q : Place) (r : KeyLabels) (o : Option Cell) → cell_at cells r ≡ o → place_order q (row_place r) ≡ Less → IsBelowAll cell_place q rest → IsBelowAll cell_place q (with_cell o rest)
below_by cells rest q r None e lt all = all
below_by cells rest q r (Some c) e lt all = (ap (place_order q) (cell_stands cells r c e) ∙ lt, all)

below_rows : (cells : List Cell) (q : Place) (rows : List KeyLabels) → IsBelowAll row_place q rows → IsBelowAll cell_place q (row_cells cells rows)
below_rows cells q [] all = tt
below_rows cells q (r ∷ rs) all = below_by cells (row_cells cells rs) q r (cell_at cells r) refl all.0 (below_rows cells q rs all.1)

ordered_by : (cells rest : List Cell) (r : KeyLabels) (o : Option Cell) → cell_at cells r ≡ o → IsBelowAll cell_place (row_place r) rest → IsOrdered cell_place rest → IsOrdered cell_place (with_cell o rest)
ordered_by cells rest r None e all more = more
ordered_by cells rest r (Some c) e all more = let P : Place → Type 0 = λ q. IsBelowAll cell_place q rest in (subst P (sym (cell_stands cells r c e)) all, more)

pub ordered_rows : (cells : List Cell) (rows : List KeyLabels) → IsOrdered row_place rows → IsOrdered cell_place (row_cells cells rows)
ordered_rows cells [] o = tt
ordered_rows cells (r ∷ rs) o = ordered_by cells (row_cells cells rs) r (cell_at cells r) refl (below_rows cells (row_place r) rs o.0) (ordered_rows cells rs o.1)

module _ (cells : List Cell) (rows : List KeyLabels) (oc : IsOrdered cell_place cells) (or : IsOrdered row_place rows)
    (all : (p : Place) → find (λ r. same_place (row_place r) p) rows ≡ None → at p cells ≡ None) where
  same_by : (p : Place) (o : Option KeyLabels) → find (λ r. same_place (row_place r) p) rows ≡ o → cond (is_some o) (at p cells) None ≡ at p cells
  same_by p None e = sym (all p e)
  same_by p (Some r) e = refl

  pub cells_are : row_cells cells rows ≡ cells
  cells_are = same_ordered cell_place (row_cells cells rows) cells (ordered_rows cells rows or) oc
      (λ p. at_rows p cells rows ∙ same_by p (find (λ r. same_place (row_place r) p) rows) refl)

filter_by : (t prefix : List ℕ) (cells rest : List Cell) (r : KeyLabels) (o : Option Cell) (b : Bool) → cell_at cells r ≡ o → is_under t prefix r ≡ b
    → filter (is_beneath t prefix) (with_cell o rest) ≡ cond b (with_cell o (filter (is_beneath t prefix) rest)) (filter (is_beneath t prefix) rest)
filter_by t prefix cells rest r None true e u = refl
filter_by t prefix cells rest r None false e u = refl
filter_by t prefix cells rest r (Some c) true e u = let h : is_beneath t prefix c ≡ true = ap (beneath t prefix) (cell_stands cells r c e) ∙ u in rw h refl
filter_by t prefix cells rest r (Some c) false e u = let h : is_beneath t prefix c ≡ false = ap (beneath t prefix) (cell_stands cells r c e) ∙ u in rw h refl

row_if : (cells : List Cell) (r : KeyLabels) (rs : List KeyLabels) (b : Bool) → cond b (with_cell (cell_at cells r) (row_cells cells rs)) (row_cells cells rs) ≡ row_cells cells (cond b (r ∷ rs) rs)
row_if cells r rs true = refl
row_if cells r rs false = refl

filter_rows : (t prefix : List ℕ) (cells : List Cell) (rows : List KeyLabels) → filter (is_beneath t prefix) (row_cells cells rows) ≡ row_cells cells (filter (is_under t prefix) rows)
filter_rows t prefix cells [] = refl
filter_rows t prefix cells (r ∷ rs) =
    filter_by t prefix cells (row_cells cells rs) r (cell_at cells r) (is_under t prefix r) refl refl
    ∙ ap (λ l. cond (is_under t prefix r) (with_cell (cell_at cells r) l) l) (filter_rows t prefix cells rs)
    ∙ row_if cells r (filter (is_under t prefix) rs) (is_under t prefix r)

pub rows_ordered : (qs : List PlaceWrites) (start : List Cell) → IsOrdered cell_place start → IsOrdered cell_place (fold (λ rows (p : PlaceWrites). apply rows p.writes) start qs)
rows_ordered [] start o = o
rows_ordered (q ∷ qs) start o = rows_ordered qs (apply start q.writes) (ordered-apply start q.writes o)

module _ (order : List ℕ) (end : Option ℕ) (base : List Cell) (ps : List PlaceWrites) (rows : List KeyLabels) (ordered : IsOrdered cell_place base) (bases : (t k : List ℕ) → get base t k ≡ base_in rows t k)
    (indexed : IsIndexed ps rows) (rising : IsRising order (map label_of ps)) where
  abbrev cells : List Cell
  cells = rows_after base (before order end ps)

  -- nothing stands at a key without a row
  pub nothing_read : (p : Place) → find (λ r. same_place (row_place r) p) rows ≡ None → get cells p.table p.key ≡ None
  nothing_read p none =
      let labels : labels_in rows p.table p.key ≡ [] = ap (λ o. option_map_or (λ (r : KeyLabels). r.labels.items) o []) none in
      let wrote : [] ≡ writers p.table p.key ps = sym labels ∙ indexed.each p.table p.key in
      get_nothing order end base ps p.table p.key ordered indexed.writes rising [] 0 wrote refl refl ∙ bases p.table p.key ∙ ap (λ o. option_map_or (λ (r : KeyLabels). r.base) o None) none

  no_row : (p : Place) → find (λ r. same_place (row_place r) p) rows ≡ None → at p cells ≡ None
  no_row p none = at_is p cells ∙ ap (option_map (cell_of p)) (nothing_read p none)

  -- the cells at the keys of all rows are all cells
  pub all_are : row_cells cells rows ≡ cells
  all_are = cells_are cells rows (rows_ordered (before order end ps) base ordered) indexed.ordered no_row

  -- what a scan gives, told by the rows from the prefix on
  pub scan_is : (t prefix : List ℕ) → kept_from 0 0 (row_cells cells (while (is_under t prefix) (drop (rank row_place (place_of t prefix) rows) rows))) ≡ scan cells t prefix
  scan_is t prefix =
      ap (kept_from 0 0) (ap (row_cells cells) (sym (under_together row_place t prefix rows indexed.ordered))
      ∙ sym (filter_rows t prefix cells rows)
      ∙ ap (filter (is_beneath t prefix)) all_are)

-- a front of an ordered list is ordered
front_below : (q : Place) (c : Cell) (xs ys : List Cell) → IsBelowAll cell_place q (xs ++ c ∷ ys) → IsBelowAll cell_place q (xs ++ c ∷ [])
front_below q c [] ys all = (all.0, tt)
front_below q c (x ∷ xs) ys all = (all.0, front_below q c xs ys all.1)

pub front_ordered : (c : Cell) (xs ys : List Cell) → IsOrdered cell_place (xs ++ c ∷ ys) → IsOrdered cell_place (xs ++ c ∷ [])
front_ordered c [] ys o = (tt, tt)
front_ordered c (x ∷ xs) ys o = (front_below (cell_place x) c xs ys o.0, front_ordered c xs ys o.1)

-- ---- one row after the other

drop_row : (rows : List KeyLabels) (i : ℕ) (r : KeyLabels) → i < length rows → r ≡ get_or rows i r → drop i rows ≡ r ∷ drop (i + 1) rows
drop_row [] i r lt is = absurd (omega arith)
drop_row (x ∷ xs) zero r lt is = ap (λ z. z ∷ xs) (sym is)
drop_row (x ∷ xs) (suc i) r lt is = rw add-one (let e = drop_row xs i r (omega arith) is in rw add-one at e)

module _ (t prefix : List ℕ) (cells : List Cell) (rows : List KeyLabels) (i : ℕ) (r : KeyLabels) (lt : i < length rows) (is : r ≡ get_or rows i r) where
  pub stops : is_under t prefix r ≡ false → row_cells cells (while (is_under t prefix) (drop i rows)) ≡ []
  stops fails = ap (λ l. row_cells cells (while (is_under t prefix) l)) (drop_row rows i r lt is) ∙ ap (λ b. row_cells cells (cond b (r ∷ while (is_under t prefix) (drop (i + 1) rows)) [])) fails

  pub goes : is_under t prefix r ≡ true → row_cells cells (while (is_under t prefix) (drop i rows)) ≡ with_cell (cell_at cells r) (row_cells cells (while (is_under t prefix) (drop (i + 1) rows)))
  goes passes = ap (λ l. row_cells cells (while (is_under t prefix) l)) (drop_row rows i r lt is) ∙ ap (λ b. row_cells cells (cond b (r ∷ while (is_under t prefix) (drop (i + 1) rows)) [])) passes

-- where nothing is left, that is all
pub stopped : (kept total left : List Cell) (bytes : ℕ) → left ≡ [] → kept ++ kept_from (length kept) bytes left ≡ total → kept ≡ total
stopped kept total left bytes none h = sym (append-nil kept) ∙ sym (ap (λ l. kept ++ kept_from (length kept) bytes l) none) ∙ h

drop_past : (rows : List KeyLabels) (n : ℕ) → length rows ≤ n → drop n rows ≡ []
drop_past [] zero le = refl
drop_past [] (suc n) le = refl
drop_past (r ∷ rs) zero le = absurd (omega (arith, le))
drop_past (r ∷ rs) (suc n) le = drop_past rs n (omega (arith, le))

pub past_all : (t prefix : List ℕ) (cells : List Cell) (rows : List KeyLabels) (n : ℕ) → length rows ≤ n → row_cells cells (while (is_under t prefix) (drop n rows)) ≡ []
past_all t prefix cells rows n le = ap (λ l. row_cells cells (while (is_under t prefix) l)) (drop_past rows n le)

-- one more cell, or none, of a scan that holds so much
module _ (t prefix : List ℕ) (cells : List Cell) (rows : List KeyLabels) (i : ℕ) (r : KeyLabels) (lt : i < length rows) (is : r ≡ get_or rows i r) (under : is_under t prefix r ≡ true)
    (kept total : List Cell) (bytes : ℕ) (h : kept ++ kept_from (length kept) bytes (row_cells cells (while (is_under t prefix) (drop i rows))) ≡ total) where
  abbrev later : List Cell
  later = row_cells cells (while (is_under t prefix) (drop (i + 1) rows))

  seen : kept ++ kept_from (length kept) bytes (with_cell (cell_at cells r) later) ≡ total
  seen = sym (ap (λ l. kept ++ kept_from (length kept) bytes l) (goes t prefix cells rows i r lt is under)) ∙ h

  pub no_cell : cell_at cells r ≡ None → kept ++ kept_from (length kept) bytes later ≡ total
  no_cell e = sym (ap (λ o. kept ++ kept_from (length kept) bytes (with_cell o later)) e) ∙ seen

  module _ (c : Cell) (e : cell_at cells r ≡ Some c) where
    abbrev more : List Cell
    more = kept_from (length kept + 1) (bytes + cell_size c) later

    added : kept ++ c ∷ cond (is_over (length kept + 1) (bytes + cell_size c)) [] more ≡ total
    added = sym (ap (λ o. kept ++ kept_from (length kept) bytes (with_cell o later)) e) ∙ seen

    pub next_ordered : IsOrdered cell_place total → IsOrdered cell_place (kept ++ c ∷ [])
    next_ordered o =
        let P : List Cell → Type 0 = λ l. IsOrdered cell_place l in
        front_ordered c kept (cond (is_over (length kept + 1) (bytes + cell_size c)) [] more) (subst P (sym added) o)

    pub last_cell : is_over (length kept + 1) (bytes + cell_size c) ≡ true → kept ++ c ∷ [] ≡ total
    last_cell over = ap (λ b. kept ++ c ∷ cond b [] more) (sym over) ∙ added

    -- the cell comes next in all of them
    pub comes_next : (n : ℕ) → length kept ≡ n → (n < length total) × ((d : Cell) → get_or total n d ≡ c)
    comes_next n e =
        let rest = cond (is_over (length kept + 1) (bytes + cell_size c)) [] more in
        let long = sym (length-append kept (c ∷ rest)) ∙ ap length added in
        (omega (arith, long, e), λ d. ap (λ l. get_or l n d) (sym added) ∙ get_or_at kept c rest d n e)

    pub next_cell : is_over (length kept + 1) (bytes + cell_size c) ≡ false → (kept ++ c ∷ []) ++ kept_from (length (kept ++ c ∷ [])) (bytes + cell_size c) later ≡ total
    next_cell over =
        ap (λ n. (kept ++ c ∷ []) ++ kept_from n (bytes + cell_size c) later) (length-append kept (c ∷ []))
        ∙ append_assoc kept (c ∷ []) more
        ∙ ap (λ b. kept ++ c ∷ cond b [] more) (sym over) ∙ added

-- ---- the cells at the keys of all rows, one after the other

append_with : (o : Option Cell) (xs ys : List Cell) → with_cell o (xs ++ ys) ≡ with_cell o xs ++ ys
append_with None xs ys = refl
append_with (Some c) xs ys = refl

cells_append : (from : List Cell) (rows rest : List KeyLabels) → row_cells from (rows ++ rest) ≡ row_cells from rows ++ row_cells from rest
cells_append from [] rest = refl
cells_append from (r ∷ rs) rest = ap (with_cell (cell_at from r)) (cells_append from rs rest) ∙ append_with (cell_at from r) (row_cells from rs) (row_cells from rest)

take_below : (q : Place) (rows : List KeyLabels) (n : ℕ) → IsBelowAll row_place q rows → IsBelowAll row_place q (take n rows)
take_below q [] zero all = tt
take_below q [] (suc n) all = tt
take_below q (r ∷ rs) zero all = tt
take_below q (r ∷ rs) (suc n) all = (all.0, take_below q rs n all.1)

take_ordered : (rows : List KeyLabels) (n : ℕ) → IsOrdered row_place rows → IsOrdered row_place (take n rows)
take_ordered [] zero o = tt
take_ordered [] (suc n) o = tt
take_ordered (r ∷ rs) zero o = tt
take_ordered (r ∷ rs) (suc n) o = (take_below (row_place r) rs n o.0, take_ordered rs n o.1)

module _ (from : List Cell) (rows : List KeyLabels) (i : ℕ) (r : KeyLabels) (lt : i < length rows) (is : r ≡ get_or rows i r) where
  -- one more cell, or none
  pub cells_more : (o : Option Cell) → cell_at from r ≡ o → row_cells from (take (i + 1) rows) ≡ row_cells from (take i rows) ++ with_cell o []
  cells_more o e =
      ap (row_cells from) (take_more rows i r lt ∙ ap (λ x. take i rows ++ x ∷ []) (sym is)) ∙ cells_append from (take i rows) (r ∷ [])
      ∙ ap (λ q. row_cells from (take i rows) ++ with_cell q []) e

  pub cells_rise : IsOrdered row_place rows → (c : Cell) → cell_at from r ≡ Some c → IsOrdered cell_place (row_cells from (take i rows) ++ c ∷ [])
  cells_rise o c e = let P : List Cell → Type 0 = λ l. IsOrdered cell_place l in subst P (cells_more (Some c) e) (ordered_rows from (take (i + 1) rows) (take_ordered rows (i + 1) o))

pub drop_ordered : (rows : List KeyLabels) (n : ℕ) → IsOrdered row_place rows → IsOrdered row_place (drop n rows)
drop_ordered rows zero o = o
drop_ordered [] (suc n) o = tt
drop_ordered (r ∷ rs) (suc n) o = drop_ordered rs n o.1

below_if : (q : Place) (x : KeyLabels) (xs : List KeyLabels) (b : Bool) → place_order q (row_place x) ≡ Less → IsBelowAll row_place q xs → IsBelowAll row_place q (cond b (x ∷ xs) [])
below_if q x xs true lt all = (lt, all)
below_if q x xs false lt all = tt

while_below : (p : KeyLabels → Bool) (q : Place) (xs : List KeyLabels) → IsBelowAll row_place q xs → IsBelowAll row_place q (while p xs)
while_below p q [] all = tt
while_below p q (x ∷ xs) all = below_if q x (while p xs) (p x) all.0 (while_below p q xs all.1)

ordered_if : (x : KeyLabels) (xs : List KeyLabels) (b : Bool) → IsBelowAll row_place (row_place x) xs → IsOrdered row_place xs → IsOrdered row_place (cond b (x ∷ xs) [])
ordered_if x xs true all o = (all, o)
ordered_if x xs false all o = tt

while_ordered : (p : KeyLabels → Bool) (xs : List KeyLabels) → IsOrdered row_place xs → IsOrdered row_place (while p xs)
while_ordered p [] o = tt
while_ordered p (x ∷ xs) o = ordered_if x (while p xs) (p x) (while_below p (row_place x) xs o.0) (while_ordered p xs o.1)

pub kept_ordered : (t prefix : List ℕ) (cells : List Cell) (rows : List KeyLabels) → IsOrdered row_place rows → IsOrdered cell_place (kept_from 0 0 (row_cells cells (while (is_under t prefix) rows)))
kept_ordered t prefix cells rows o = ordered-kept 0 0 (row_cells cells (while (is_under t prefix) rows)) (ordered_rows cells (while (is_under t prefix) rows) (while_ordered (is_under t prefix) rows o))
