-- Rows that are copied one by one hold the same labels.
use Rattle.std.proofs.Common.{◌≡◌, ℕ, Bool, true, false, cond, List, [], ◌∷◌, Option, Some, None, refl, sym, ap, ◌∙◌, subst}
use Rattle.std.specs.List.{find, AllZip}
use Rattle.std.specs.Option.{option_map_or}
use Rattle.lang_core.specs.Places.{Place, place_of, place_order, same_place, IsBelowAll, IsOrdered}
use Rattle.key_labels.specs.Rows.{row_place, held, labels_in, IsCopy, KeepsRows}
use Rattle.key_labels.specs.declared.rows.KeyLabels.{KeyLabels}

below_copy : (p : Place) (rs ss : List KeyLabels) → AllZip IsCopy rs ss → IsBelowAll row_place p rs → IsBelowAll row_place p ss
below_copy p [] [] z all = tt
below_copy p [] (s ∷ ss) z all = absurd z
below_copy p (r ∷ rs) [] z all = absurd z
below_copy p (r ∷ rs) (s ∷ ss) z all = (ap (place_order p) z.0.place ∙ all.0, below_copy p rs ss z.1 all.1)

pub ordered_copy : (rs ss : List KeyLabels) → AllZip IsCopy rs ss → IsOrdered row_place rs → IsOrdered row_place ss
ordered_copy [] [] z o = tt
ordered_copy [] (s ∷ ss) z o = absurd z
ordered_copy (r ∷ rs) [] z o = absurd z
ordered_copy (r ∷ rs) (s ∷ ss) z o =
    let P : Place → Type 0 = λ p. IsBelowAll row_place p ss in
    (subst P (sym z.0.place) (below_copy (row_place r) rs ss z.1 o.0), ordered_copy rs ss z.1 o.1)

copy_by : {X : Type 0} (f : KeyLabels → X) (none : X) (a b : Bool) (r s : KeyLabels) (o q : Option KeyLabels) → b ≡ a → f s ≡ f r → option_map_or f q none ≡ option_map_or f o none
    → option_map_or f (cond b (Some s) q) none ≡ option_map_or f (cond a (Some r) o) none
copy_by f none true true r s o q e here rest = here
copy_by f none true false r s o q e here rest = cc
copy_by f none false true r s o q e here rest = cc
copy_by f none false false r s o q e here rest = rest

held_copy : {X : Type 0} (f : KeyLabels → X) (none : X) (rs ss : List KeyLabels) → ((r s : KeyLabels) → IsCopy r s → f s ≡ f r) → AllZip IsCopy rs ss → (t k : List ℕ) → held f none ss t k ≡ held f none rs t k
held_copy f none [] [] same z t k = refl
held_copy f none [] (s ∷ ss) same z t k = absurd z
held_copy f none (r ∷ rs) [] same z t k = absurd z
held_copy f none (r ∷ rs) (s ∷ ss) same z t k =
    copy_by f none (same_place (row_place r) (place_of t k)) (same_place (row_place s) (place_of t k)) r s
    (find (λ r. same_place (row_place r) (place_of t k)) rs) (find (λ r. same_place (row_place r) (place_of t k)) ss)
    (ap (λ p. same_place p (place_of t k)) z.0.place) (same r s z.0) (held_copy f none rs ss same z.1 t k)

pub labels_copy : (rs ss : List KeyLabels) → AllZip IsCopy rs ss → (t k : List ℕ) → labels_in ss t k ≡ labels_in rs t k
labels_copy rs ss z t k = held_copy (λ (r : KeyLabels). r.labels.items) [] rs ss (λ r s c. c.labels) z t k

pub rows_copy : (rs ss : List KeyLabels) → AllZip IsCopy rs ss → KeepsRows rs ss
rows_copy rs ss z = record {
  keys = λ t k h. held_copy (λ (r : KeyLabels). true) false rs ss (λ r s c. refl) z t k ∙ h;
  bases = λ t k. held_copy (λ (r : KeyLabels). r.base) None rs ss (λ r s c. c.base) z t k;
}
