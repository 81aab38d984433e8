-- What tags that rise along a list say of places, and what keeps them rising.
use Rattle.std.proofs.Common.{◌≡◌, ◌≢◌, true, false, nat_lt, ℕ, ◌+◌, ◌-◌, ◌*◌, ◌<◌, ◌≤◌, List, [], ◌∷◌, ◌++◌, length, get_or, set, refl, sym, ap, ◌∙◌, subst, inl, inr, arith, length-append, get_or-set_same, get_or-set_other, eq-eqb}
use Rattle.std.specs.declared.cmp.Ordering.{Ordering}
use Rattle.std.specs.declared.cmp.Ordering.TheVariants.{Less, Equal, Greater}
use Rattle.std.specs.Ordering.{nat_cmp, MatchOrdering}
use Rattle.std.specs.Cmp.{nat_cmp_is}
use Rattle.std.specs.List.{Contains, insert}
use Rattle.std.specs.List.Sorted.{IsPartitionedBy, IsPartitionPoint}
use Rattle.std.proofs.Math.Dec.{eqb}
use Rattle.std.proofs.lemmas.Cmp.{ranked}
use Rattle.std.proofs.lemmas.Bool.{ne_eqb, cases_lt, cases_order, lt-ltb, le-ltb, ltb-true, ltb-false}
use Rattle.std.proofs.lemmas.List.{get_or_default, get_or_append_left, get_or_at}
use Rattle.std.proofs.lemmas.List.Sums.{position_or_len_is}
use Rattle.std.proofs.lemmas.List.Sorted.{IsPartitionedBy-ltb, IsNonDecreasingBy-from_default}
use Rattle.std.proofs.lemmas.List.Edits.{length-insert, get_or-insert_below, get_or-insert_at, get_or-insert_above}
use Rattle.place_order.specs.Labels.{place_in, IsNew}
use Rattle.place_order.specs.Tags.{tag_of, tag_at, even_tag, IsTagged, IsBetween}

per_case : {A B C D E F : Type 0} (o : Ordering) → (A → D) → (B → E) → (C → F) → MatchOrdering o A B C → MatchOrdering o D E F
per_case Less f g h m = f m
per_case Equal f g h m = g m
per_case Greater f g h m = h m

-- ---- even tags rise, with one left out at the gap

even_below : (gap i : ℕ) → i < gap → even_tag gap i ≡ 4611686018427387904 + 35184372088832 * i
even_below gap i lt = rw (lt-ltb i gap lt) refl

even_from : (gap i : ℕ) → gap ≤ i → even_tag gap i ≡ 4611686018427387904 + 35184372088832 * (i + 1)
even_from gap i le = rw (le-ltb i gap le) refl

even_rises : (gap i j : ℕ) → i < j → even_tag gap i < even_tag gap j
even_rises gap i j lt =
    elim (cases_lt i gap) [
      | inl a ↦ elim (cases_lt j gap) [
        | inl b ↦ (let e = even_below gap i a in let f = even_below gap j b in omega arith)
        | inr b ↦ (let e = even_below gap i a in let f = even_from gap j b in omega arith)
      ]
      | inr a ↦ (let e = even_from gap i a in let f = even_from gap j (omega arith) in omega arith)
    ]

module _ (labels tags : List ℕ) (t : IsTagged labels tags) where
  place_is : (i label : ℕ) → i < length labels → get_or labels i 0 ≡ label → place_in labels label ≡ i
  place_is i label within is =
      position_or_len_is (λ x. eqb x label) labels i 0 (omega arith)
      (λ k lt. ne_eqb (get_or labels k 0) label (λ e.
      let rises = t.rising k i lt within in
      let same : tag_at labels tags k ≡ tag_at labels tags i = ap (λ l. get_or tags l 0) (e ∙ sym is) in
      omega arith))
      (λ _. eq-eqb (get_or labels i 0) label is)

  -- a label that is there stands at its place
  pub stands : (label : ℕ) → Contains labels label → (place_in labels label < length labels) × (get_or labels (place_in labels label) 0 ≡ label)
  stands label there =
      let is : get_or labels there.0 0 ≡ label = get_or_default labels there.0 0 label there.1 ∙ there.2 in
      let place = place_is there.0 label there.1 is in
      (rw place there.1, rw place is)

  tag_is : (label : ℕ) → Contains labels label → tag_of tags label ≡ tag_at labels tags (place_in labels label)
  tag_is label there = ap (λ l. get_or tags l 0) (sym (stands label there).1)

  -- labels stand as their tags do
  pub same_order : (a b : ℕ) → Contains labels a → Contains labels b → nat_cmp (tag_of tags a) (tag_of tags b) ≡ nat_cmp (place_in labels a) (place_in labels b)
  same_order a b has_a has_b =
      let p = place_in labels a in
      let q = place_in labels b in
      rw (tag_is a has_a, tag_is b has_b) (sym (nat_cmp_is (tag_at labels tags p) (tag_at labels tags q) (nat_cmp p q)
      (per_case (nat_cmp p q) (λ lt. t.rising p q lt (stands b has_b).0) (λ e. ap (tag_at labels tags) e) (λ lt. t.rising q p lt (stands a has_a).0)
      (ranked p q (nat_cmp p q) refl))))

  climbs : (i j : ℕ) → i ≤ j → j < length labels → tag_at labels tags i ≤ tag_at labels tags j
  climbs i j le within =
      elim (cases_lt i j) [
        | inl lt ↦ (let r = t.rising i j lt within in omega arith)
        | inr ge ↦ (let e : i ≡ j = omega arith in let same = ap (tag_at labels tags) e in omega arith)
      ]

  -- each label of the list has a tag
  pub has_tag : (label : ℕ) → Contains labels label → label < length tags
  has_tag label there =
      let s = stands label there in
      let P : ℕ → Type 0 = λ l. l < length tags in
      subst P s.1 (t.known (place_in labels label) s.0)

  -- labels of lower tags stand before the others
  pub parted_by_tags : (tag : ℕ) → IsPartitionedBy (λ l. nat_lt (tag_of tags l) tag) labels
  parted_by_tags tag = IsPartitionedBy-ltb (tag_of tags) labels tag (IsNonDecreasingBy-from_default (tag_of tags) labels 0 climbs)

  -- a label stands where those of lower tags end
  pub place_by_tags : (label at : ℕ) → Contains labels label
      → IsPartitionPoint (λ l. nat_lt (tag_of tags l) (tag_of tags label) ≡ true) (λ l. nat_lt (tag_of tags l) (tag_of tags label) ≡ false) labels at
      → at ≡ place_in labels label
  place_by_tags label at there point =
      let place = place_in labels label in
      let within = (stands label there).0 in
      let e = tag_is label there in
      elim (cases_order at place) [
        | inl is ↦ is
        | inr (inl lower) ↦ (let a = ltb-false _ _ (point.1 at 0 (omega arith) (omega arith)) in let r = t.rising at place lower within in absurd (omega arith))
        | inr (inr higher) ↦ (let a = ltb-true _ _ (point.0 place 0 (omega arith) higher) in absurd (omega arith))
      ]

  -- a tag between its neighbours' fits the gap
  pub between_neighbours : (gap tag : ℕ) → gap ≤ length labels → (0 < gap → tag_at labels tags (gap - 1) < tag) → (gap < length labels → tag < tag_at labels tags gap) → IsBetween labels tags gap tag
  between_neighbours gap tag within before after = record {
    above = λ i lt. let r = climbs i (gap - 1) (omega arith) (omega arith) in let b = before (omega arith) in omega arith;
    below = λ i le lt. let r = climbs gap i le lt in let a = after (omega arith) in omega arith;
  }

  differ : (i j : ℕ) → i < j → j < length labels → get_or labels i 0 ≢ get_or labels j 0
  differ i j lt within e =
      let r = t.rising i j lt within in
      let same : tag_at labels tags i ≡ tag_at labels tags j = ap (λ l. get_or tags l 0) e in
      omega arith

  -- one label more has its even tag
  pub evened_more : (gap i : ℕ) (now : List ℕ) → length now ≡ length tags → i < length labels
      → ((k : ℕ) → k < i → tag_at labels now k ≡ even_tag gap k)
      → (k : ℕ) → k < i + 1 → tag_at labels (set now (get_or labels i 0) (even_tag gap i)) k ≡ even_tag gap k
  evened_more gap i now len within each k lt =
      let known = t.known i within in
      elim (cases_lt k i) [
        | inl below ↦ (let other : get_or labels k 0 ≢ get_or labels i 0 = differ k i below within in
            get_or-set_other now (get_or labels i 0) (get_or labels k 0) (even_tag gap i) 0 other ∙ each k below)
        | inr ge ↦ (let e : k ≡ i = omega arith in
            let inside : get_or labels i 0 < length now = omega arith in
            rw e (get_or-set_same now (get_or labels i 0) (even_tag gap i) 0 inside))
      ]

  module _ (gap : ℕ) (now : List ℕ) (len : length now ≡ length tags) (each : (k : ℕ) → k < length labels → tag_at labels now k ≡ even_tag gap k) where
    pub evened_tagged : IsTagged labels now
    evened_tagged = record {
      few = t.few;
      known = λ i lt. let k = t.known i lt in omega arith;
      rising = λ i j lt within. let e = each i (omega arith) in let f = each j within in let r = even_rises gap i j lt in omega arith;
    }

    pub evened_between : gap ≤ length labels → IsBetween labels now gap (4611686018427387904 + 35184372088832 * gap)
    evened_between within = record {
      above = λ i lt. let e = each i (omega arith) in let f = even_below gap i lt in omega arith;
      below = λ i le lt. let e = each i lt in let f = even_from gap i le in omega arith;
    }

  -- ---- one label more, with the next number and a tag that fits

  -- the next number is no label's
  pub next_is_new : IsNew (length tags) labels
  next_is_new there = let s = stands (length tags) there in let k = t.known (place_in labels (length tags)) s.0 in omega arith

  same_tag : (tag i : ℕ) → i < length labels → tag_at labels (tags ++ tag ∷ []) i ≡ tag_at labels tags i
  same_tag tag i lt = get_or_append_left tags (tag ∷ []) 0 (get_or labels i 0) (t.known i lt)

  module _ (at tag : ℕ) (within : at ≤ length labels) (fits : IsBetween labels tags at tag) where
    abbrev more : List ℕ
    more = insert labels at (length tags)

    tag_below : (i : ℕ) → i < at → tag_at more (tags ++ tag ∷ []) i ≡ tag_at labels tags i
    tag_below i lt = ap (λ l. get_or (tags ++ tag ∷ []) l 0) (get_or-insert_below labels at (length tags) 0 i lt within) ∙ same_tag tag i (omega arith)

    tag_there : tag_at more (tags ++ tag ∷ []) at ≡ tag
    tag_there = ap (λ l. get_or (tags ++ tag ∷ []) l 0) (get_or-insert_at labels at (length tags) 0 within) ∙ get_or_at tags tag [] 0 (length tags) refl

    tag_above : (i : ℕ) → at ≤ i → i < length labels → tag_at more (tags ++ tag ∷ []) (i + 1) ≡ tag_at labels tags i
    tag_above i le lt = ap (λ l. get_or (tags ++ tag ∷ []) l 0) (get_or-insert_above labels at (length tags) 0 i le within) ∙ same_tag tag i lt

    known_more : (i : ℕ) → i < length more → get_or more i 0 < length (tags ++ tag ∷ [])
    known_more i lt =
        let n = length-append tags (tag ∷ []) in
        let m = length-insert labels at (length tags) within in
        elim (cases_order i at) [
          | inl e ↦ (let v = get_or-insert_at labels at (length tags) 0 within in rw e (omega arith))
          | inr (inl below) ↦ (let v = get_or-insert_below labels at (length tags) 0 i below within in let k = t.known i (omega arith) in omega arith)
          | inr (inr above) ↦ (let j : i ≡ (i - 1) + 1 = omega arith in
              let v = get_or-insert_above labels at (length tags) 0 (i - 1) (omega arith) within in
              let k = t.known (i - 1) (omega arith) in
              let P : ℕ → Type 0 = λ n. get_or (insert labels at (length tags)) n 0 < length (tags ++ tag ∷ []) in subst P (sym j) (omega arith))
        ]

    rising_more : (i j : ℕ) → i < j → j < length more → tag_at more (tags ++ tag ∷ []) i < tag_at more (tags ++ tag ∷ []) j
    rising_more i j lt inside =
        let m = length-insert labels at (length tags) within in
        elim (cases_order j at) [
          | inl e ↦ (let v = tag_below i (omega arith) in let a = fits.above i (omega arith) in rw (e, tag_there) (omega arith))
          | inr (inl below) ↦ (let v = tag_below i (omega arith) in let w = tag_below j below in let r = t.rising i j lt (omega arith) in omega arith)
          | inr (inr above) ↦ (let k : j ≡ (j - 1) + 1 = omega arith in
              let w = tag_above (j - 1) (omega arith) (omega arith) in
              let P : ℕ → Type 0 = λ n. tag_at more (tags ++ tag ∷ []) i < tag_at more (tags ++ tag ∷ []) n in
              subst P (sym k) (elim (cases_order i at) [
                | inl e ↦ (let b = fits.below (j - 1) (omega arith) (omega arith) in rw (e, tag_there) (omega arith))
                | inr (inl before) ↦ (let v = tag_below i before in let r = t.rising i (j - 1) (omega arith) (omega arith) in omega arith)
                | inr (inr after) ↦ (let h : i ≡ (i - 1) + 1 = omega arith in
                    let v = tag_above (i - 1) (omega arith) (omega arith) in
                    let r = t.rising (i - 1) (j - 1) (omega arith) (omega arith) in
                    let Q : ℕ → Type 0 = λ n. tag_at more (tags ++ tag ∷ []) n < tag_at more (tags ++ tag ∷ []) ((j - 1) + 1) in
                    subst Q (sym h) (omega arith))
              ]))
        ]

    pub tagged_more : length labels < 100000 → IsTagged (insert labels at (length tags)) (tags ++ tag ∷ [])
    tagged_more few = record {
      few = (let m = length-insert labels at (length tags) within in omega arith);
      known = known_more;
      rising = rising_more;
    }
