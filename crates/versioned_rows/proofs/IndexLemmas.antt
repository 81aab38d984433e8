-- What it comes to for all keys that a place is taken out or put in.
use Rattle.std.proofs.Common.{◌≡◌, ℕ, suc, ◌+◌, ◌<◌, Bool, true, false, not, cond, List, [], ◌∷◌, ◌++◌, Option, Some, None, nat_eq, nat_lt, length, get_or, map, position, refl, sym, ap, ◌∙◌, subst, inl, inr, arith, eqb-true}
use Rattle.std.specs.List.{filter, find, slice_get, AllByRecursion, position_or_len}
use Rattle.std.proofs.lemmas.List.Folds.{find_at}
use Rattle.std.proofs.lemmas.Option.{slice_get-get_or, slice_get_past}
use Rattle.std.proofs.lemmas.Bool.{cases_Bool, ltb-false, ne_eqb, eqb-false, not-true}
use Rattle.std.proofs.lemmas.List.{map-append}
use Rattle.std.proofs.lemmas.List.Elements.{filter-append}
use Rattle.lang_core.specs.Places.{IsOrdered}
use Rattle.lang_core.specs.Rows.{write_place}
use Rattle.place_order.specs.Rising.{IsBeforeAll, IsRising, is_before}
use Rattle.key_labels.specs.Labels.{is_other, with_label}
use Rattle.versioned_rows.specs.Places.{label_of, is_written, writers, without, with_place}
use Rattle.key_labels.specs.Rows.{labels_in, row_place}
use Rattle.key_labels.specs.Labels.{IsApart}
use Rattle.versioned_rows.specs.Versions.{IsIndexed}
use Rattle.key_labels.specs.declared.rows.KeyLabels.{KeyLabels}
use Rattle.versioned_rows.specs.declared.places.PlaceWrites.{PlaceWrites}
use Rattle.key_labels.proofs.RisingLemmas.{not_before_later, rising_kept}
use Rattle.key_labels.proofs.ApartLemmas.{position_is, all_others, apart_from}
use Rattle.key_labels.proofs.ListLemmas.{filter_filter, filter-map, all_kept}
use Rattle.versioned_rows.proofs.GetLemmas.{In, in_at}

-- what is found, by its position
pub found_at : {X : Type 0} (p : X → Bool) (xs : List X) (at : ℕ) (x : X) → position p xs ≡ Some at → x ≡ get_or xs at x → find p xs ≡ Some x
found_at p xs at x h is =
    let pos = position_is p xs at h in
    find_at p xs ∙ ap (slice_get xs) (sym pos.0) ∙ slice_get-get_or xs at x pos.1 ∙ ap Some (sym is)

pub found_none : {X : Type 0} (p : X → Bool) (xs : List X) → position p xs ≡ None → find p xs ≡ None
found_none p xs h = by (nat_lt (position_or_len p xs) (length xs)) refl h
  where
    by : (b : Bool) → nat_lt (position_or_len p xs) (length xs) ≡ b → cond b (Some (position_or_len p xs)) None ≡ None → find p xs ≡ None
    by true e h = cc
    by false e h = find_at p xs ∙ slice_get_past xs (position_or_len p xs) (ltb-false (position_or_len p xs) (length xs) e)

at_by : (label : ℕ) (x p : PlaceWrites) (ps : List PlaceWrites) (b : Bool) → nat_eq (label_of p) label ≡ b
    → cond (not b) (1 + position_or_len (λ q. nat_eq (label_of q) label) ps) 0 < suc (length ps)
    → x ≡ get_or (p ∷ ps) (cond (not b) (1 + position_or_len (λ q. nat_eq (label_of q) label) ps) 0) x
    → (position_or_len (λ q. nat_eq (label_of q) label) ps < length ps → x ≡ get_or ps (position_or_len (λ q. nat_eq (label_of q) label) ps) x → label_of x ≡ label)
    → label_of x ≡ label
at_by label x p ps true e lt is more = ap label_of is ∙ eqb-true p.label label e
at_by label x p ps false e lt is more =
    let n : 1 + position_or_len (λ q. nat_eq (label_of q) label) ps ≡ suc (position_or_len (λ q. nat_eq (label_of q) label) ps) = omega arith in
    more (omega arith) (is ∙ ap (λ i. get_or (p ∷ ps) i x) n)

pub labels_at : (label : ℕ) (ps : List PlaceWrites) (p : PlaceWrites) → position_or_len (λ q. nat_eq (label_of q) label) ps < length ps → p ≡ get_or ps (position_or_len (λ q. nat_eq (label_of q) label) ps) p → label_of p ≡ label
labels_at label [] p lt is = absurd (omega arith)
labels_at label (q ∷ qs) p lt is = at_by label p q qs (nat_eq (label_of q) label) refl lt is (labels_at label qs p)

module _ (f : ℕ → Bool) where
  apart_each : (n : ℕ) (ps : List PlaceWrites) → AllByRecursion (λ y. nat_eq y n ≡ false) (map label_of ps) → AllByRecursion (λ y. nat_eq y n ≡ false) (map label_of (filter (λ p. f (label_of p)) ps))
  apart_each n ps all = rw (sym (filter-map label_of f ps)) (all_kept (λ y. nat_eq y n ≡ false) f (map label_of ps) all)

  apart_if : (x : ℕ) (xs : List ℕ) (b : Bool) → AllByRecursion (λ y. nat_eq y x ≡ false) xs → IsApart xs → IsApart (cond b (x ∷ xs) xs)
  apart_if x xs true all apart = (all, apart)
  apart_if x xs false all apart = apart

  apart_labels : (xs : List ℕ) → IsApart xs → IsApart (filter f xs)
  apart_labels [] apart = tt
  apart_labels (x ∷ xs) apart = apart_if x (filter f xs) (f x) (all_kept (λ y. nat_eq y x ≡ false) f xs apart.0) (apart_labels xs apart.1)

  pub apart_kept : (ps : List PlaceWrites) → IsApart (map label_of ps) → IsApart (map label_of (filter (λ p. f (label_of p)) ps))
  apart_kept ps apart = let P : List ℕ → Type 0 = λ l. IsApart l in subst P (filter-map label_of f ps) (apart_labels (map label_of ps) apart)

  -- the writers of a key among some of the places
  pub writers_kept : (t k : List ℕ) (ps : List PlaceWrites) → writers t k (filter (λ p. f (label_of p)) ps) ≡ filter f (writers t k ps)
  writers_kept t k ps = ap (map label_of) (filter_filter (λ p. is_written t k p.writes) (λ p. f (label_of p)) ps) ∙ sym (filter-map label_of f (filter (λ p. is_written t k p.writes) ps))

-- the one place with the label didn't write the key
in_apart : (n : ℕ) (ps : List PlaceWrites) (p : PlaceWrites) → AllByRecursion (λ y. nat_eq y n ≡ false) (map label_of ps) → In p ps → nat_eq p.label n ≡ false
in_apart n [] p all i = absurd i
in_apart n (q ∷ qs) p all (inl e) = ap (λ (q : PlaceWrites). nat_eq q.label n) (sym e) ∙ all.0
in_apart n (q ∷ qs) p all (inr i) = in_apart n qs p all.1 i

map_if : {X Y : Type 0} (f : X → Y) (P : Y → Type 0) (x : X) (xs : List X) (b : Bool) → P (f x) → AllByRecursion P (map f xs) → AllByRecursion P (map f (cond b (x ∷ xs) xs))
map_if f P x xs true here all = (here, all)
map_if f P x xs false here all = all

map_kept : {X Y : Type 0} (f : X → Y) (P : Y → Type 0) (p : X → Bool) (xs : List X) → AllByRecursion P (map f xs) → AllByRecursion P (map f (filter p xs))
map_kept f P p [] all = tt
map_kept f P p (x ∷ xs) all = map_if f P x (filter p xs) (p x) all.0 (map_kept f P p xs all.1)

other_way : (a b : ℕ) → nat_eq a b ≡ false → nat_eq b a ≡ false
other_way a b h = ne_eqb b a (λ e. eqb-false a b h (sym e))

other_first : (t k : List ℕ) (label : ℕ) (q : PlaceWrites) (qs : List PlaceWrites) (b : Bool) → nat_eq q.label label ≡ false → filter (is_other label) (writers t k qs) ≡ writers t k qs
    → filter (is_other label) (map label_of (cond b (q ∷ filter (λ p. is_written t k p.writes) qs) (filter (λ p. is_written t k p.writes) qs)))
    ≡ map label_of (cond b (q ∷ filter (λ p. is_written t k p.writes) qs) (filter (λ p. is_written t k p.writes) qs))
other_first t k label q qs true e h = rw e (ap (λ l. q.label ∷ l) h)
other_first t k label q qs false e h = h

pub unwritten : (t k : List ℕ) (p : PlaceWrites) (ps : List PlaceWrites) → IsApart (map label_of ps) → In p ps → is_written t k p.writes ≡ false → filter (is_other p.label) (writers t k ps) ≡ writers t k ps
unwritten t k p [] apart i none = absurd i
unwritten t k p (q ∷ qs) apart (inl e) none =
    let wrote : is_written t k q.writes ≡ false = ap (λ (q : PlaceWrites). is_written t k q.writes) e ∙ none in
    rw wrote (all_others p.label (writers t k qs) (apart_from q.label p.label (writers t k qs) (ap label_of e) (map_kept label_of (λ y. nat_eq y q.label ≡ false) (λ (q : PlaceWrites). is_written t k q.writes) qs apart.0)))
unwritten t k p (q ∷ qs) apart (inr i) none =
    let differs : nat_eq q.label p.label ≡ false = other_way p.label q.label (in_apart q.label qs p apart.0 i) in
    other_first t k p.label q qs (is_written t k q.writes) differs (unwritten t k p qs apart.1 i none)

none_later : (order : List ℕ) (end : Option ℕ) (x : ℕ) (ys : List ℕ) → is_before order end x ≡ false → IsBeforeAll order x ys
    → (filter (is_before order end) ys ≡ []) × (filter (λ y. not (is_before order end y)) ys ≡ ys)
none_later order end x [] h all = (refl, refl)
none_later order end x (y ∷ ys) h all =
    let here = not_before_later order end x y all.0 h in
    let more = none_later order end x ys h all.1 in
    (rw here more.0, rw here (ap (λ l. y ∷ l) more.1))

half_by : (order : List ℕ) (end : Option ℕ) (x : ℕ) (xs : List ℕ) (b : Bool) → is_before order end x ≡ b → IsRising order (x ∷ xs)
    → filter (is_before order end) xs ++ filter (λ y. not (is_before order end y)) xs ≡ xs
    → cond b (x ∷ filter (is_before order end) xs) (filter (is_before order end) xs) ++ cond (not b) (x ∷ filter (λ y. not (is_before order end y)) xs) (filter (λ y. not (is_before order end y)) xs) ≡ x ∷ xs
half_by order end x xs true e r h = ap (λ l. x ∷ l) h
half_by order end x xs false e r h = let n = none_later order end x xs e r.1 in ap (λ l. l ++ x ∷ filter (λ y. not (is_before order end y)) xs) n.0 ∙ ap (λ l. x ∷ l) n.1

-- a rising list is what stands before a place and what doesn't
pub halves : (order : List ℕ) (end : Option ℕ) (xs : List ℕ) → IsRising order xs → filter (is_before order end) xs ++ filter (λ y. not (is_before order end y)) xs ≡ xs
halves order end [] r = refl
halves order end (x ∷ xs) r = half_by order end x xs (is_before order end x) refl r (halves order end xs r.2)

all_insert : {X : Type 0} (P : X → Type 0) (x : X) (xs ys : List X) → P x → AllByRecursion P (xs ++ ys) → AllByRecursion P (xs ++ x ∷ ys)
all_insert P x [] ys here all = (here, all)
all_insert P x (z ∷ zs) ys here all = (all.0, all_insert P x zs ys here all.1)

apart_put : (x : ℕ) (xs ys : List ℕ) → IsApart (xs ++ ys) → AllByRecursion (λ y. nat_eq y x ≡ false) (xs ++ ys) → IsApart (xs ++ x ∷ ys)
apart_put x [] ys apart others = (others, apart)
apart_put x (z ∷ zs) ys apart others = (all_insert (λ y. nat_eq y z ≡ false) x zs ys (other_way z x others.0) apart.0, apart_put x zs ys apart.1 others.1)

all_put : {X : Type 0} (P : X → Type 0) (x : X) (xs ys : List X) → AllByRecursion P xs → P x → AllByRecursion P ys → AllByRecursion P (xs ++ x ∷ ys)
all_put P x [] ys all here rest = (here, rest)
all_put P x (z ∷ zs) ys all here rest = (all.0, all_put P x zs ys all.1 here rest)

-- a place is taken out
pub take_indexed : (label at : ℕ) (p : PlaceWrites) (ps : List PlaceWrites) (rows after : List KeyLabels) → IsIndexed ps rows → position (λ q. nat_eq (label_of q) label) ps ≡ Some at → p ≡ get_or ps at p
    → IsOrdered row_place after → ((t k : List ℕ) → labels_in after t k ≡ cond (is_written t k p.writes) (filter (is_other label) (labels_in rows t k)) (labels_in rows t k))
    → IsIndexed (without label ps) after
take_indexed label at p ps rows after was found is ordered each =
    let pos = position_is (λ q. nat_eq (label_of q) label) ps at found in
    let lt = pos.1 in
    let Q : ℕ → Type 0 = λ n. n < length ps in
    let R : ℕ → Type 0 = λ n. p ≡ get_or ps n p in
    let named : label_of p ≡ label = labels_at label ps p (subst Q pos.0 lt) (subst R pos.0 is) in
    record {
      apart = apart_kept (is_other label) ps was.apart;
      writes = all_kept (λ (p : PlaceWrites). IsOrdered write_place p.writes) (λ p. is_other label (label_of p)) ps was.writes;
      ordered = ordered;
      each = λ t k. each t k ∙ elim (cases_Bool (is_written t k p.writes)) [
        | inl e ↦ rw e (ap (filter (is_other label)) (was.each t k) ∙ sym (writers_kept (is_other label) t k ps))
        | inr e ↦ rw e (was.each t k ∙ sym (ap (λ l. filter (is_other l) (writers t k ps)) (sym named) ∙ unwritten t k p ps was.apart (in_at p ps at lt is) e) ∙ sym (writers_kept (is_other label) t k ps))
      ];
    }

differ : (label : ℕ) (ps : List PlaceWrites) → AllByRecursion (λ q. is_other label (label_of q) ≡ true) ps → AllByRecursion (λ y. nat_eq y label ≡ false) (map label_of ps)
differ label [] all = tt
differ label (p ∷ ps) all = (not-true (nat_eq p.label label) all.0, differ label ps all.1)

put_if : (t k : List ℕ) (p : PlaceWrites) (ps : List PlaceWrites) (b : Bool) → map label_of (cond b (p ∷ ps) ps) ≡ cond b (p.label ∷ map label_of ps) (map label_of ps)
put_if t k p ps true = refl
put_if t k p ps false = refl

put_writers : (t k : List ℕ) (p : PlaceWrites) (xs ys : List PlaceWrites) → writers t k (xs ++ p ∷ ys) ≡ writers t k xs ++ cond (is_written t k p.writes) (p.label ∷ writers t k ys) (writers t k ys)
put_writers t k p xs ys =
    ap (map label_of) (filter-append (λ (p : PlaceWrites). is_written t k p.writes) xs (p ∷ ys))
    ∙ map-append label_of (filter (λ p. is_written t k p.writes) xs) (filter (λ p. is_written t k p.writes) (p ∷ ys))
    ∙ ap (λ l. writers t k xs ++ l) (put_if t k p (filter (λ p. is_written t k p.writes) ys) (is_written t k p.writes))

-- a place is put in
pub put_indexed : (order : List ℕ) (p : PlaceWrites) (ps : List PlaceWrites) (rows after : List KeyLabels) → IsIndexed ps rows → IsRising order (map label_of ps)
    → AllByRecursion (λ q. is_other p.label (label_of q) ≡ true) ps → IsOrdered write_place p.writes
    → IsOrdered row_place after → ((t k : List ℕ) → labels_in after t k ≡ cond (is_written t k p.writes) (with_label order p.label (labels_in rows t k)) (labels_in rows t k))
    → IsIndexed (with_place order p ps) after
put_indexed order p ps rows after was rising others writes ordered each = record {
  apart = (let b = is_before order (Some p.label) in
      let xs = filter (λ q. is_before order (Some p.label) (label_of q)) ps in
      let ys = filter (λ q. not (is_before order (Some p.label) (label_of q))) ps in
      let same : map label_of ps ≡ map label_of xs ++ map label_of ys =
      sym (halves order (Some p.label) (map label_of ps) rising) ∙ ap (λ l. l ++ filter (λ y. not (is_before order (Some p.label) y)) (map label_of ps)) (filter-map label_of (is_before order (Some p.label)) ps)
      ∙ ap (λ l. map label_of xs ++ l) (filter-map label_of (λ y. not (is_before order (Some p.label) y)) ps) in
      let P : List ℕ → Type 0 = λ l. IsApart l in
      let Q : List ℕ → Type 0 = λ l. AllByRecursion (λ y. nat_eq y p.label ≡ false) l in
      subst P (sym (map-append label_of xs (p ∷ ys))) (apart_put p.label (map label_of xs) (map label_of ys) (subst P same was.apart) (subst Q same (differ p.label ps others))));
  writes = all_put (λ (p : PlaceWrites). IsOrdered write_place p.writes) p (filter (λ q. is_before order (Some p.label) (label_of q)) ps) (filter (λ q. not (is_before order (Some p.label) (label_of q))) ps)
      (all_kept (λ (p : PlaceWrites). IsOrdered write_place p.writes) (λ q. is_before order (Some p.label) (label_of q)) ps was.writes) writes
      (all_kept (λ (p : PlaceWrites). IsOrdered write_place p.writes) (λ q. not (is_before order (Some p.label) (label_of q))) ps was.writes);
  ordered = ordered;
  each = λ t k.
      let front = writers_kept (is_before order (Some p.label)) t k ps in
      let rest = writers_kept (λ y. not (is_before order (Some p.label) y)) t k ps in
      each t k ∙ sym (put_writers t k p (filter (λ q. is_before order (Some p.label) (label_of q)) ps) (filter (λ q. not (is_before order (Some p.label) (label_of q))) ps)
      ∙ ap (λ l. l ++ cond (is_written t k p.writes) (p.label ∷ writers t k (filter (λ q. not (is_before order (Some p.label) (label_of q))) ps)) (writers t k (filter (λ q. not (is_before order (Some p.label) (label_of q))) ps))) front
      ∙ ap (λ l. filter (is_before order (Some p.label)) (writers t k ps) ++ cond (is_written t k p.writes) (p.label ∷ l) l) rest
      ∙ elim (cases_Bool (is_written t k p.writes)) [
        | inl e ↦ rw (e, was.each t k) refl
        | inr e ↦ rw e (halves order (Some p.label) (writers t k ps) (rising_kept label_of order (λ p. is_written t k p.writes) ps rising) ∙ sym (was.each t k))
      ]);
}

-- the rows name the same labels at each key
pub same_indexed : (ps qs : List PlaceWrites) (rows after : List KeyLabels) → IsIndexed ps rows → qs ≡ ps → IsOrdered row_place after → ((t k : List ℕ) → labels_in after t k ≡ labels_in rows t k) → IsIndexed qs after
same_indexed ps qs rows after was same ordered each =
    let P : List PlaceWrites → Type 0 = λ l. IsIndexed l after in
    subst P (sym same) (record { apart = was.apart; writes = was.writes; ordered = ordered; each = λ t k. each t k ∙ was.each t k })
