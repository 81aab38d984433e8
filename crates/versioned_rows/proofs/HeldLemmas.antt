-- Rows in order have each the labels of the places that write its key.
use Rattle.std.proofs.Common.{◌≡◌, false, ℕ, List, [], ◌∷◌, Some, None, refl, sym, ap, ◌∙◌, subst}
use Rattle.std.specs.List.{find, All, AllByRecursion}
use Rattle.std.specs.Option.{option_map_or}
use Rattle.std.specs.Ordering.{is_eq}
use Rattle.std.specs.declared.cmp.Ordering.TheVariants.{Less}
use Rattle.std.proofs.lemmas.List.Elements.{All-from_recursion, All-weaker}
use Rattle.lang_core.specs.Places.{Place, place_of, place_order, same_place, IsBelowAll, IsOrdered}
use Rattle.lang_core.specs.Rows.{get}
use Rattle.lang_core.proofs.ReadLemmas.{place_is, place_same, same-order}
use Rattle.key_labels.specs.Rows.{row_place, base_in}
use Rattle.versioned_rows.specs.Versions.{KeptVersions, IsIndexed, IsRowOf}
use Rattle.versioned_rows.specs.Places.{writers}
use Rattle.key_labels.specs.declared.rows.KeyLabels.{KeyLabels}
use Rattle.versioned_rows.specs.declared.places.PlaceWrites.{PlaceWrites}
use Rattle.key_labels.proofs.EditLemmas.{found_passes}

pub differs : (a b : Place) → place_order a b ≡ Less → same_place a b ≡ false
differs a b e = same-order a b ∙ ap is_eq e

abbrev HasOwn : List KeyLabels → KeyLabels → Type 0
HasOwn rows r = find (λ q. same_place (row_place q) (row_place r)) rows ≡ Some r

later : (x : KeyLabels) (xs ys : List KeyLabels) → IsBelowAll row_place (row_place x) ys → AllByRecursion (HasOwn xs) ys → AllByRecursion (HasOwn (x ∷ xs)) ys
later x xs [] below own = tt
later x xs (y ∷ ys) below own = (let apart : same_place (row_place x) (row_place y) ≡ false = differs (row_place x) (row_place y) below.0 in rw apart own.0, later x xs ys below.1 own.1)

-- what is found at the key of a row is that row
own_rows : (rows : List KeyLabels) → IsOrdered row_place rows → AllByRecursion (HasOwn rows) rows
own_rows [] o = tt
own_rows (x ∷ xs) o = (let here = place_same (row_place x) (row_place x) refl in rw here refl, later x xs xs o.0 (own_rows xs o.1))

pub all_rows : (kept : KeptVersions) (ps : List PlaceWrites) (rows : List KeyLabels) → ps ≡ kept.versions → ((t k : List ℕ) → get kept.base t k ≡ base_in rows t k) → IsIndexed ps rows → All (IsRowOf kept) rows
all_rows kept ps rows same bases i =
    All-weaker (HasOwn rows) (IsRowOf kept) (λ r own. record {
      labels = sym (ap (λ o. option_map_or (λ (q : KeyLabels). q.labels.items) o []) own) ∙ i.each r.table r.key ∙ ap (writers r.table r.key) same;
      base = sym (ap (λ o. option_map_or (λ (q : KeyLabels). q.base) o None) own) ∙ sym (bases r.table r.key);
    }) rows (All-from_recursion (HasOwn rows) rows (own_rows rows i.ordered))

-- the row of a key is one of them
pub row_told : (kept : KeptVersions) (ps : List PlaceWrites) (rows : List KeyLabels) (t k : List ℕ) (r : KeyLabels) → ps ≡ kept.versions → ((t k : List ℕ) → get kept.base t k ≡ base_in rows t k) → IsIndexed ps rows
    → find (λ q. same_place (row_place q) (place_of t k)) rows ≡ Some r → IsRowOf kept r
row_told kept ps rows t k r same bases i found =
    let p : row_place r ≡ place_of t k = place_is (row_place r) (place_of t k) (found_passes (λ q. same_place (row_place q) (place_of t k)) rows r found) in
    let P : Place → Type 0 = λ q. find (λ z. same_place (row_place z) q) rows ≡ Some r in
    let own = subst P (sym p) found in
    record {
      labels = sym (ap (λ o. option_map_or (λ (q : KeyLabels). q.labels.items) o []) own) ∙ i.each r.table r.key ∙ ap (writers r.table r.key) same;
      base = sym (ap (λ o. option_map_or (λ (q : KeyLabels). q.base) o None) own) ∙ sym (bases r.table r.key);
    }
