-- A row that was found in its slot stands at its place among the rows, and an edit of the slot is an edit there.
use Rattle.std.proofs.Common.{◌≡◌, ℕ, zero, suc, ◌+◌, ◌<◌, ◌≤◌, true, false, cond, List, [], ◌∷◌, Option, None, length, get_or, set, eqb, refl, sym, ap, ◌∙◌, subst, inl, inr, arith}
use Rattle.std.specs.declared.cmp.Ordering.{Ordering}
use Rattle.std.specs.declared.cmp.Ordering.TheVariants.{Less, Equal, Greater}
use Rattle.std.specs.Ordering.{is_eq, is_gt}
use Rattle.std.specs.List.{find}
use Rattle.std.specs.List.Sorted.{IsPartitionedBy, IsPartitionPoint}
use Rattle.std.specs.Option.{option_map_or}
use Rattle.std.specs.Cmp.{Equal-is}
use Rattle.lang_core.specs.Places.{Place, place_of, place_order, same_place, IsOrdered, by_order, rank, is_taken}
use Rattle.lang_core.proofs.ReadLemmas.{place_same, same-order}
use Rattle.std.proofs.lemmas.Bool.{cases_lt}
use Rattle.lang_core.proofs.SeekLemmas.{parted, found_rank, found_taken, rank_parted, find_none, taken_there, taken_nowhere, sought_front, sought_rest, sought_rank, sought_taken, IsSought as IsTold}
use Rattle.key_labels.specs.KeyRows.{in_order, is_slot_below, IsArranged, IsSought, IsSlotOf, IsFreeAt}
use Rattle.key_labels.specs.Rows.{row_place, labels_in, spare_of, spare_in, base_in, has_row, IsBased, KeepsKeys, KeepsRows}
use Rattle.key_labels.specs.declared.rows.KeyLabels.{KeyLabels}
use Rattle.key_labels.proofs.EditLemmas.{StandsAt, GoesAt, row_at, set_ordered, set_labels, set_same, set_kept, set_less, set_keys, set_based, set_rows, set_there, set_made}
use Rattle.key_labels.proofs.SlotLemmas.{all_at, read_in, length_in, set_in, parted_in, test_at}

-- the order of one row and a place, as a search of a list of this one row tells it
pub below_one : (o : Ordering) → eqb (by_order o 0 0 1) 1 ≡ is_gt o
below_one Less = refl
below_one Equal = refl
below_one Greater = refl

pub taken_one : (o : Ordering) → by_order o false true false ≡ is_eq o
taken_one Less = refl
taken_one Equal = refl
taken_one Greater = refl

equal_to : (p q : Place) → q ≡ p → Equal ≡ place_order p q
equal_to p q e = sym ((Equal-is (place_order p q)).0 (sym (same-order p q) ∙ place_same p q (sym e)))

-- the row in a slot, at its place among the rows
pub record StandsIn (order : List ℕ) (slots items : List KeyLabels) (t k : List ℕ) (slot : ℕ) (row : KeyLabels) : Type 0 where
  pub at : ℕ
  pub stands : StandsAt items t k at row
  pub edited : (new : KeyLabels) → in_order order (set slots slot new) ≡ set items at new

stands_here : (order : List ℕ) (slots : List KeyLabels) (t k : List ℕ) (slot : ℕ) (row : KeyLabels) → IsArranged (length slots) order → IsOrdered row_place (in_order order slots)
    → IsSlotOf (place_of t k) slots slot → row ≡ get_or slots slot row → StandsIn order slots (in_order order slots) t k slot row
stands_here order slots t k slot row a o s is =
    let found = a.each slot s.within in
    let at = found.0 in
    let lt = found.1 in
    let items = in_order order slots in
    let here : get_or order at 0 ≡ slot = found.2 in
    let read : row ≡ get_or items at row = is ∙ ap (λ n. get_or slots n row) (sym here) ∙ sym (read_in order slots at row a.within lt) in
    let long = length_in order slots a.within in
    let inside : at < length items = omega (arith, lt, long) in
    let equal : Equal ≡ place_order (place_of t k) (row_place row) = equal_to (place_of t k) (row_place row) (ap row_place is ∙ s.place row) in
    record {
      at = at;
      stands = record {
        ordered = o;
        rank_is = found_rank row_place (place_of t k) items o at row inside read equal;
        taken = found_taken row_place (place_of t k) items o at row inside read equal;
        is = read;
        within = inside;
      };
      edited = λ new. ap (λ n. in_order order (set slots n new)) (sym here) ∙ set_in order slots at new a.within a.apart lt;
    }

pub stands_in : {order : List ℕ} {slots items : List KeyLabels} {t k : List ℕ} {slot : ℕ} {row : KeyLabels} → in_order order slots ≡ items → IsArranged (length slots) order → IsOrdered row_place items
    → IsSlotOf (place_of t k) slots slot → row ≡ get_or slots slot row → StandsIn order slots items t k slot row
stands_in {order} {slots} {items} {t} {k} {slot} {row} seen a o s is =
    let P : List KeyLabels → Type 0 = λ l. StandsIn order slots l t k slot row in
    let Q : List KeyLabels → Type 0 = λ l. IsOrdered row_place l in
    subst P seen (stands_here order slots t k slot row a (subst Q (sym seen) o) s is)

-- what is said of the rows once the one in the slot is edited
module _ {order : List ℕ} {slots items : List KeyLabels} {t k : List ℕ} {slot : ℕ} {row : KeyLabels} (s : StandsIn order slots items t k slot row) (new : KeyLabels) (same : row_place new ≡ row_place row) where
  pub slot_ordered : IsOrdered row_place (in_order order (set slots slot new))
  slot_ordered = let P : List KeyLabels → Type 0 = λ l. IsOrdered row_place l in subst P (sym (s.edited new)) (set_ordered s.stands new same)

  pub slot_labels : (labels : List ℕ) → new.labels.items ≡ labels → (u v : List ℕ) → labels_in (in_order order (set slots slot new)) u v ≡ cond (same_place (place_of t k) (place_of u v)) labels (labels_in items u v)
  slot_labels labels are u v =
      ap (λ l. labels_in l u v) (s.edited new) ∙ set_labels s.stands new same u v ∙ ap (λ l. cond (same_place (place_of t k) (place_of u v)) l (labels_in items u v)) are

  pub slot_same : new.labels.items ≡ row.labels.items → (u v : List ℕ) → labels_in (in_order order (set slots slot new)) u v ≡ labels_in items u v
  slot_same kept u v = ap (λ l. labels_in l u v) (s.edited new) ∙ set_same s.stands new same kept u v

  pub slot_kept : spare_of row ≤ spare_of new → (u v : List ℕ) → spare_in items u v ≤ spare_in (in_order order (set slots slot new)) u v
  slot_kept more u v = let P : List KeyLabels → Type 0 = λ l. spare_in items u v ≤ spare_in l u v in subst P (sym (s.edited new)) (set_kept s.stands new same more u v)

  pub slot_less : spare_of row ≤ spare_of new + 1 → (u v : List ℕ) → spare_in items u v ≤ spare_in (in_order order (set slots slot new)) u v + cond (same_place (place_of t k) (place_of u v)) 1 0
  slot_less less u v = let P : List KeyLabels → Type 0 = λ l. spare_in items u v ≤ spare_in l u v + cond (same_place (place_of t k) (place_of u v)) 1 0 in subst P (sym (s.edited new)) (set_less s.stands new same less u v)

  pub slot_rows : new.base ≡ row.base → KeepsRows items (in_order order (set slots slot new))
  slot_rows kept = let P : List KeyLabels → Type 0 = λ l. KeepsRows items l in subst P (sym (s.edited new)) (set_rows s.stands new same kept)

  pub slot_keys : KeepsKeys items (in_order order (set slots slot new))
  slot_keys = let P : List KeyLabels → Type 0 = λ l. KeepsKeys items l in subst P (sym (s.edited new)) (set_keys s.stands new same)

  pub slot_based : (base : Option (List ℕ)) → new.base ≡ base → IsBased t k base items (in_order order (set slots slot new))
  slot_based base is u v = ap (λ l. base_in l u v) (s.edited new) ∙ set_based s.stands new same base is u v

  pub slot_has : has_row (in_order order (set slots slot new)) t k ≡ true
  slot_has = ap (λ l. has_row l t k) (s.edited new) ∙ set_there s.stands new same

  pub slot_made : (n : ℕ) → n ≤ spare_of new → n ≤ spare_in (in_order order (set slots slot new)) t k
  slot_made n le = let P : List KeyLabels → Type 0 = λ l. n ≤ spare_in l t k in subst P (sym (s.edited new)) (set_made s.stands new same n le)

default_read : {X : Type 0} (xs : List X) (i : ℕ) (d : X) → i < length xs → get_or xs i d ≡ get_or xs i (get_or xs i d)
default_read [] i d lt = absurd (omega (arith, lt))
default_read (x ∷ xs) zero d lt = refl
default_read (x ∷ xs) (suc i) d lt = default_read xs i d (omega (arith, lt))

-- a row that halves found stands in the slot of that number
pub slot_there : {order : List ℕ} {slots : List KeyLabels} {t k : List ℕ} {at slot : ℕ} → IsArranged (length slots) order → IsOrdered row_place (in_order order slots)
    → at ≡ rank row_place (place_of t k) (in_order order slots) → is_taken row_place (place_of t k) (in_order order slots) ≡ true → at < length order → slot ≡ get_or order at 0
    → IsSlotOf (place_of t k) slots slot
slot_there {order} {slots} {t} {k} {at} {slot} a o rank_is taken inside is =
    let items = in_order order slots in
    let long = length_in order slots a.within in
    let here : at < length items = omega (arith, inside, long) in
    let P : ℕ → Type 0 = λ n. n < length slots in
    record {
      within = subst P (sym is) (all_at (λ n. n < length slots) order at 0 a.within inside);
      place = λ d.
          let stands : StandsAt items t k at (get_or items at d) = record { ordered = o; rank_is = rank_is; taken = taken; is = default_read items at d here; within = here } in
          ap (λ n. row_place (get_or slots n d)) is ∙ ap row_place (sym (read_in order slots at d a.within inside)) ∙ row_at stands;
    }

-- ---- a key that is sought between two places

first : {X : Type 0} (xs : List X) → 0 < length xs → X
first [] lt = absurd (omega (arith, lt))
first (x ∷ xs) lt = x

pub sought_all : (p : Place) (items : List KeyLabels) (n : ℕ) → n ≡ length items → IsSought p items 0 n
sought_all p items n whole = record {
  front = λ k d below. absurd (omega (arith, below));
  rest = λ k d from to. absurd (omega (arith, whole, from, to));
}

module _ {p : Place} {items : List KeyLabels} {low high : ℕ} (s : IsSought p items low high) where
  told : IsTold row_place p items low high
  told = record { front = s.front; rest = s.rest }

  -- where the one place has come to the other, that is the rank, and none stands at it
  pub met_rank : low ≤ length items → high ≤ low → low ≡ rank row_place p items
  met_rank within met = sought_rank row_place p items low high within met told

  pub met_taken : low ≤ length items → high ≤ low → is_taken row_place p items ≡ false
  met_taken within met = sought_taken row_place p items low high within met told

  -- none stands at a key of which the rank is where the search ends
  pub end_taken : high ≤ length items → high ≡ rank row_place p items → is_taken row_place p items ≡ false
  end_taken within is = elim (cases_lt high (length items)) [
    | inl lt ↦ (let d = first items (omega (arith, lt)) in
        let x = get_or items high d in
        let read : x ≡ get_or items high x = default_read items high d lt in
        sym (taken_there row_place p items high x is lt read Less (sym (ap (λ r. place_order p (row_place r)) read ∙ s.rest high x (omega arith) lt))))
    | inr ge ↦ (let whole : high ≡ length items = omega (arith, ge, within) in taken_nowhere row_place p items (sym is ∙ whole))
  ]

-- after a comparison with the row at a place
module _ {p : Place} {items : List KeyLabels} (o : IsOrdered row_place items) {place : ℕ} {x : KeyLabels} (lt : place < length items) (is : x ≡ get_or items place x) where
  pub sought_behind : {low high : ℕ} → Greater ≡ place_order p (row_place x) → IsSought p items low high → IsSought p items (place + 1) high
  sought_behind {low} {high} h s =
      let now = sought_front row_place p items o place x lt is low high h (told s) in
      record { front = now.front; rest = now.rest }

  pub sought_before : {low high : ℕ} → Less ≡ place_order p (row_place x) → IsSought p items low high → IsSought p items low place
  sought_before {low} {high} h s =
      let now = sought_rest row_place p items o place x lt is low high h (told s) in
      record { front = now.front; rest = now.rest }

-- a place of the order is one of the rows
pub row_inside : (order : List ℕ) (slots : List KeyLabels) {place : ℕ} → IsArranged (length slots) order → place < length order → place < length (in_order order slots)
row_inside order slots a lt = let long = length_in order slots a.within in omega (arith, lt, long)

-- how many rows stand before a key, told by their numbers
pub rank_told : (order : List ℕ) (slots : List KeyLabels) (p : Place) (n : ℕ) → IsArranged (length slots) order → n ≤ length order
    → IsPartitionPoint (λ m. is_slot_below p slots m ≡ true) (λ m. is_slot_below p slots m ≡ false) order n → n ≡ rank row_place p (in_order order slots)
rank_told order slots p n a within point =
    let items = in_order order slots in
    let long = length_in order slots a.within in
    let same : (k : ℕ) (d : KeyLabels) → k < length order → is_slot_below p slots (get_or order k 0) ≡ is_gt (place_order p (row_place (get_or items k d))) = λ k d lt.
    test_at (λ r. is_gt (place_order p (row_place r))) order slots k d a.within lt in
    rank_parted row_place p items n (omega (arith, within, long)) (
      λ k d from to. sym (same k d (omega (arith, to, within))) ∙ point.0 k 0 from to,
      λ k d from to. sym (same k d (omega (arith, to, long))) ∙ point.1 k 0 from (omega (arith, to, long)),
    )

pub slots_parted : (order : List ℕ) (slots : List KeyLabels) (p : Place) → IsArranged (length slots) order → IsOrdered row_place (in_order order slots) → IsPartitionedBy (is_slot_below p slots) order
slots_parted order slots p a o = parted_in (λ r. is_gt (place_order p (row_place r))) order slots a.within (parted row_place p (in_order order slots) o)

-- a key without a row has no labels and no places for one
module _ {seen items : List KeyLabels} {t k : List ℕ} {at : ℕ} (same : seen ≡ items) (o : IsOrdered row_place items) (free : IsFreeAt (place_of t k) seen at) where
  pub free_here : IsFreeAt (place_of t k) items at
  free_here = let P : List KeyLabels → Type 0 = λ l. IsFreeAt (place_of t k) l at in subst P same free

  pub none_labels : labels_in items t k ≡ []
  none_labels = ap (λ o. option_map_or (λ (r : KeyLabels). r.labels.items) o []) (find_none row_place (place_of t k) items o free_here.free)

  pub none_spare : spare_in items t k ≡ 0
  none_spare = ap (λ o. option_map_or spare_of o 0) (find_none row_place (place_of t k) items o free_here.free)

  pub none_row : find (λ r. same_place (row_place r) (place_of t k)) items ≡ None
  none_row = find_none row_place (place_of t k) items o free_here.free

  pub none_there : has_row items t k ≡ false
  none_there = ap (λ o. option_map_or (λ (r : KeyLabels). true) o false) none_row

-- a new row goes in at its place
pub new_goes : {seen items : List KeyLabels} {t k : List ℕ} {at : ℕ} {new : KeyLabels} → seen ≡ items → IsOrdered row_place items → IsFreeAt (place_of t k) items at
    → new.table ≡ t → new.key ≡ k → new.base ≡ None → new.labels.items ≡ [] → GoesAt seen t k at new
new_goes {seen} {items} {t} {k} {at} {new} same o free table key bare empty =
    let P : List KeyLabels → Type 0 = λ l. GoesAt l t k at new in
    subst P (sym same) (record { ordered = o; rank_is = free.rank; free = free.free; table = table; key = key; bare = bare; empty = empty })
