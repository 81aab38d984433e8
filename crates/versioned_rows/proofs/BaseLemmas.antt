-- The texts that stand before all labels, as rows.
use Rattle.std.proofs.Common.{◌≡◌, true, false, cond, ℕ, List, [], ◌∷◌, Option, Some, None, option_map, refl, sym, ap, ◌∙◌, subst, inl, inr}
use Rattle.std.specs.List.{find}
use Rattle.std.specs.Option.{option_map_or}
use Rattle.std.specs.declared.cmp.Ordering.TheVariants.{Less}
use Rattle.std.proofs.lemmas.Bool.{cases_Bool}
use Rattle.lang_core.specs.Places.{Place, place_of, place_order, same_place, IsBelowAll, IsOrdered}
use Rattle.lang_core.specs.Rows.{get, cell_place}
use Rattle.lang_core.specs.declared.cells.Cell.{Cell}
use Rattle.lang_core.proofs.ReadLemmas.{place_is, place_same}
use Rattle.key_labels.specs.Rows.{row_place, base_in}
use Rattle.key_labels.specs.declared.rows.KeyLabels.{KeyLabels}
use Rattle.versioned_rows.specs.Scans.{with_cell}
use Rattle.versioned_rows.specs.Versions.{base_cells}
use Rattle.versioned_rows.proofs.CellLemmas.{at_is, cell_of}
use Rattle.versioned_rows.proofs.HeldLemmas.{differs}
use Rattle.versioned_rows.proofs.PrefixLemmas.{same_ordered}

-- ---- in order

below_by : (p : Place) (r : KeyLabels) (rest : List Cell) (o : Option (List ℕ)) → place_order p (row_place r) ≡ Less → IsBelowAll cell_place p rest
    → IsBelowAll cell_place p (with_cell (option_map (λ x. record { table = r.table; key = r.key; text = x }) o) rest)
below_by p r rest None lt all = all
below_by p r rest (Some x) lt all = (lt, all)

below_base : (p : Place) (rows : List KeyLabels) → IsBelowAll row_place p rows → IsBelowAll cell_place p (base_cells rows)
below_base p [] all = tt
below_base p (r ∷ rs) all = below_by p r (base_cells rs) r.base all.0 (below_base p rs all.1)

ordered_by : (r : KeyLabels) (rest : List Cell) (o : Option (List ℕ)) → IsBelowAll cell_place (row_place r) rest → IsOrdered cell_place rest
    → IsOrdered cell_place (with_cell (option_map (λ x. record { table = r.table; key = r.key; text = x }) o) rest)
ordered_by r rest None all o = o
ordered_by r rest (Some x) all o = (all, o)

pub ordered_base : (rows : List KeyLabels) → IsOrdered row_place rows → IsOrdered cell_place (base_cells rows)
ordered_base [] o = tt
ordered_base (r ∷ rs) o = ordered_by r (base_cells rs) r.base (below_base (row_place r) rs o.0) (ordered_base rs o.1)

-- ---- what stands at a key

apart : (p q : Place) → place_order p q ≡ Less → same_place q p ≡ false
apart p q e = elim (cases_Bool (same_place q p)) [
  | inl same ↦ (let is : p ≡ q = sym (place_is q p same) in
      let here : same_place p q ≡ true = place_same p q is in
      let there : same_place p q ≡ false = differs p q e in
      cc)
  | inr other ↦ other
]

none_below : (p : Place) (rows : List KeyLabels) → IsBelowAll row_place p rows → find (λ r. same_place (row_place r) p) rows ≡ None
none_below p [] all = refl
none_below p (r ∷ rs) all = let other = apart p (row_place r) all.0 in rw other (none_below p rs all.1)

here_by : (r : KeyLabels) (t k : List ℕ) (rest : List Cell) (o : Option (List ℕ)) → same_place (row_place r) (place_of t k) ≡ true → get rest t k ≡ None
    → get (with_cell (option_map (λ x. record { table = r.table; key = r.key; text = x }) o) rest) t k ≡ o
here_by r t k rest None e none = none
here_by r t k rest (Some x) e none = rw e refl

other_by : (r : KeyLabels) (t k : List ℕ) (rest : List Cell) (o : Option (List ℕ)) → same_place (row_place r) (place_of t k) ≡ false
    → get (with_cell (option_map (λ x. record { table = r.table; key = r.key; text = x }) o) rest) t k ≡ get rest t k
other_by r t k rest None e = refl
other_by r t k rest (Some x) e = rw e refl

pub get_base : (rows : List KeyLabels) → IsOrdered row_place rows → (t k : List ℕ) → get (base_cells rows) t k ≡ base_in rows t k
get_base [] o t k = refl
get_base (r ∷ rs) o t k = elim (cases_Bool (same_place (row_place r) (place_of t k))) [
  | inl e ↦ (let p : row_place r ≡ place_of t k = place_is (row_place r) (place_of t k) e in
      let P : Place → Type 0 = λ q. find (λ r. same_place (row_place r) q) rs ≡ None in
      let none : find (λ r. same_place (row_place r) (place_of t k)) rs ≡ None = subst P p (none_below (row_place r) rs o.0) in
      let nothing : get (base_cells rs) t k ≡ None = get_base rs o.1 t k ∙ ap (λ q. option_map_or (λ (r : KeyLabels). r.base) q None) none in
      let found : base_in (r ∷ rs) t k ≡ r.base = ap (λ b. option_map_or (λ (r : KeyLabels). r.base) (cond b (Some r) (find (λ r. same_place (row_place r) (place_of t k)) rs)) None) e in
      here_by r t k (base_cells rs) r.base e nothing ∙ sym found)
  | inr e ↦ (let passed : base_in (r ∷ rs) t k ≡ base_in rs t k = ap (λ b. option_map_or (λ (r : KeyLabels). r.base) (cond b (Some r) (find (λ r. same_place (row_place r) (place_of t k)) rs)) None) e in
      other_by r t k (base_cells rs) r.base e ∙ get_base rs o.1 t k ∙ sym passed)
]

-- ---- rows with the same cells

-- cells in order are told by what is read
pub same_cells : (xs ys : List Cell) → IsOrdered cell_place xs → IsOrdered cell_place ys → ((t k : List ℕ) → get xs t k ≡ get ys t k) → xs ≡ ys
same_cells xs ys ox oy same = same_ordered cell_place xs ys ox oy (λ p. at_is p xs ∙ ap (option_map (cell_of p)) (same p.table p.key) ∙ sym (at_is p ys))

-- rows that keep their texts have the same base rows
pub same_base : (old new : List KeyLabels) → IsOrdered row_place old → IsOrdered row_place new → ((t k : List ℕ) → base_in new t k ≡ base_in old t k) → base_cells new ≡ base_cells old
same_base old new oo on same =
    same_cells (base_cells new) (base_cells old) (ordered_base new on) (ordered_base old oo) (λ t k. get_base new on t k ∙ same t k ∙ sym (get_base old oo t k))
