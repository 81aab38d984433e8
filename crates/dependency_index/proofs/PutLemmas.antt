-- What it comes to for the places of rows that a label is put into one.
use Rattle.std.proofs.Common.{◌≡◌, ℕ, ◌+◌, ◌≤◌, Bool, true, false, cond, List, ◌∷◌, ◌++◌, length, take, drop, ap, arith}
use Rattle.lang_core.specs.Places.{Place, place_of, same_place}
use Rattle.lang_core.proofs.ReadLemmas.{place_is}
use Rattle.key_labels.specs.Rows.{labels_in, spare_in, IsEdited}
use Rattle.key_labels.specs.declared.rows.KeyLabels.{KeyLabels}
use Rattle.dependency_index.proofs.NumberLemmas.{longer_by}

kept_if : (b : Bool) (l m : List ℕ) (x y : ℕ) → (b ≡ true → length m ≡ length l + 1) → x ≤ y + cond b 1 0 → length l + x ≤ length (cond b m l) + y
kept_if true l m x y long le = let e = long cc in omega (arith, e, le)
kept_if false l m x y long le = omega (arith, le)

-- no row has fewer places
pub places_kept : (rows new : List KeyLabels) (t k : List ℕ) (at n : ℕ) → IsEdited t k (take at (labels_in rows t k) ++ n ∷ drop at (labels_in rows t k)) rows new
    → ((u v : List ℕ) → spare_in rows u v ≤ spare_in new u v + cond (same_place (place_of t k) (place_of u v)) 1 0)
    → (u v : List ℕ) → length (labels_in rows u v) + spare_in rows u v ≤ length (labels_in new u v) + spare_in new u v
places_kept rows new t k at n edited spare u v =
    let more = take at (labels_in rows t k) ++ n ∷ drop at (labels_in rows t k) in
    let e = ap length (edited u v) in
    let m = kept_if (same_place (place_of t k) (place_of u v)) (labels_in rows u v) more (spare_in rows u v) (spare_in new u v)
    (λ same. let p = ap (λ (q : Place). length (labels_in rows q.table q.key)) (place_is (place_of t k) (place_of u v) same) in
    let long = longer_by n at (labels_in rows t k) in
    omega (arith, p, long)) (spare u v) in
    omega (arith, e, m)
