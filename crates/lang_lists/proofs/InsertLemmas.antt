-- Chains of which one gets a key in between.
use Rattle.std.proofs.Common.{◌≡◌, ◌≢◌, ℕ, zero, suc, ◌+◌, ◌-◌, ◌<◌, ◌≤◌, Bool, true, false, cond, List, [], ◌∷◌, length, take, drop, set, get_or, refl, sym, ap, ◌∙◌, subst, inl, inr, arith, add-one, eq-eqb, eqb-true, get_or-set_same, get_or-set_other, length-set}
use Rattle.std.specs.Prelude.{IsOk, Result, Ok, Err}
use Rattle.std.specs.List.{insert}
use Rattle.std.specs.Result.{is_ok}
use Rattle.std.proofs.lemmas.Bool.{ne_eqb, cases_eq, cases_lt, lt-ltb, le-ltb}
use Rattle.std.proofs.lemmas.List.{length-take-le, take-take, take-append-le, get_or-take}
use Rattle.std.proofs.lemmas.List.Edits.{length-insert, get_or-insert_below, get_or-insert_at, get_or-insert_above}
use Rattle.lang_lists.specs.Ends.{end_behind, last_end, raised}
use Rattle.lang_lists.specs.Chains.{bucket_of, is_in, end_in, IsLinked, IsParted}
use Rattle.lang_lists.proofs.HashEndLemmas.{last_end-within, last_passes}

-- ---- ends in a list with one more element

-- an end before and after an element has gone in at a place
pub record IsGrown (at : ℕ) (passes : Bool) (e f : ℕ) : Type 0 where
  pub later : at < e → f ≡ e + 1
  pub here : e ≤ at → passes ≡ true → f ≡ at + 1
  pub stays : e ≤ at → passes ≡ false → f ≡ e

grown_first : (b : Bool) (e : ℕ) → IsGrown 0 b e (end_behind b e)
grown_first b (suc e) = record { later = λ lt. omega arith; here = λ le is. absurd (omega arith); stays = λ le is. absurd (omega arith) }
grown_first true zero = record { later = λ lt. absurd (omega arith); here = λ le is. refl; stays = λ le is. cc }
grown_first false zero = record { later = λ lt. absurd (omega arith); here = λ le is. cc; stays = λ le is. refl }

grown_behind : (c : Bool) (at : ℕ) (b : Bool) (e f : ℕ) → IsGrown at b e f → IsGrown (suc at) b (end_behind c e) (end_behind c f)
grown_behind c at b (suc e) (suc f) g = record {
  later = λ lt. (let is = g.later (omega arith) in omega arith);
  here = λ le is. (let now = g.here (omega arith) is in omega arith);
  stays = λ le is. (let now = g.stays (omega arith) is in omega arith);
}
grown_behind true at b zero (suc f) g = record {
  later = λ lt. absurd (omega arith);
  here = λ le is. (let now = g.here (omega arith) is in omega arith);
  stays = λ le is. (let now = g.stays (omega arith) is in absurd (omega arith));
}
grown_behind false at b zero (suc f) g = record {
  later = λ lt. absurd (omega arith);
  here = λ le is. (let now = g.here (omega arith) is in omega arith);
  stays = λ le is. (let now = g.stays (omega arith) is in absurd (omega arith));
}
grown_behind true at b zero zero g = record {
  later = λ lt. absurd (omega arith);
  here = λ le is. (let now = g.here (omega arith) is in absurd (omega arith));
  stays = λ le is. refl;
}
grown_behind false at b zero zero g = record {
  later = λ lt. absurd (omega arith);
  here = λ le is. (let now = g.here (omega arith) is in absurd (omega arith));
  stays = λ le is. refl;
}
grown_behind c at b (suc e) zero g = record {
  later = λ lt. (let is = g.later (omega arith) in absurd (omega arith));
  here = λ le is. (let now = g.here (omega arith) is in absurd (omega arith));
  stays = λ le is. (let now = g.stays (omega arith) is in absurd (omega arith));
}

-- among the elements up to one that stands at the place or behind it
pub end_insert : {X : Type 0} (p : X → Bool) (xs : List X) (at : ℕ) (x : X) (j : ℕ) → at ≤ j → j ≤ length xs
    → IsGrown at (p x) (last_end p (take j xs)) (last_end p (take (suc j) (insert xs at x)))
end_insert p [] zero x zero from within = grown_first (p x) 0
end_insert p [] zero x (suc j) from within = absurd (omega (arith, within))
end_insert p [] (suc at) x j from within = absurd (omega (arith, from, within))
end_insert p (y ∷ ys) zero x j from within = grown_first (p x) (last_end p (take j (y ∷ ys)))
end_insert p (y ∷ ys) (suc at) x zero from within = absurd (omega (arith, from))
end_insert p (y ∷ ys) (suc at) x (suc j) from within =
    grown_behind (p y) at (p x) (last_end p (take j ys)) (last_end p (take (suc j) (insert ys at x))) (end_insert p ys at x j (omega (arith, from)) (omega (arith, within)))

pub take_insert : {X : Type 0} (xs : List X) (at : ℕ) (x : X) (i : ℕ) → i ≤ at → at ≤ length xs → take i (insert xs at x) ≡ take i xs
take_insert xs at x i le within =
    let len = length-take-le at xs within in
    take-append-le i (take at xs) (x ∷ drop at xs) (omega (arith, len)) ∙ take-take i at xs le

-- ---- what passes lies before the end

not_behind : (b : Bool) (e at : ℕ) → end_behind b e ≤ suc at → e ≤ at
not_behind b zero at le = omega arith
not_behind b (suc e) at le = omega (arith, le)

-- an end is found in each front that holds it
front_end : {X : Type 0} (p : X → Bool) (xs : List X) (at : ℕ) → last_end p xs ≤ at → last_end p (take at xs) ≡ last_end p xs
front_end p [] zero le = refl
front_end p [] (suc at) le = refl
front_end p (x ∷ xs) zero le = omega (arith, le)
front_end p (x ∷ xs) (suc at) le = ap (end_behind (p x)) (front_end p xs at (not_behind (p x) (last_end p xs) at le))

more_behind : (b : Bool) (e n : ℕ) → suc n ≤ e → suc (suc n) ≤ end_behind b e
more_behind b zero n le = absurd (omega (arith, le))
more_behind b (suc e) n le = omega arith

some_behind : (b : Bool) (e : ℕ) → b ≡ true → 1 ≤ end_behind b e
some_behind b (suc e) is = omega arith
some_behind true zero is = omega arith
some_behind false zero is = cc

passes_within : {X : Type 0} (p : X → Bool) (xs : List X) (d : X) (i : ℕ) → i < length xs → p (get_or xs i d) ≡ true → suc i ≤ last_end p xs
passes_within p [] d i lt is = absurd (omega (arith, lt))
passes_within p (x ∷ xs) d zero lt is = some_behind (p x) (last_end p xs) is
passes_within p (x ∷ xs) d (suc i) lt is = more_behind (p x) (last_end p xs) i (passes_within p xs d i (omega (arith, lt)) is)

-- among the first j
within_front : (p : ℕ → Bool) (keys : List ℕ) (i j : ℕ) → i < j → j ≤ length keys → p (get_or keys i 0) ≡ true → i < last_end p (take j keys)
within_front p keys i j lt le is =
    let short = length-take-le j keys le in
    let there = passes_within p (take j keys) 0 i (omega arith) (ap p (get_or-take j keys i 0 lt) ∙ is) in
    omega arith

pub raised_up : (at e : ℕ) → at < e → raised at e ≡ e + 1
raised_up at e lt = (let is = lt-ltb at e lt in rw is refl)

pub raised_not : (at e : ℕ) → e ≤ at → raised at e ≡ e
raised_not at e le = (let is = le-ltb at e le in rw is refl)

raised_grown : (at : ℕ) (b : Bool) (e f : ℕ) → IsGrown at b e f → (e ≤ at → b ≡ false) → raised at e ≡ f
raised_grown at b e f g alone = elim (cases_lt at e) [
  | inl lt ↦ raised_up at e lt ∙ sym (g.later lt)
  | inr ge ↦ raised_not at e ge ∙ sym (g.stays ge (alone ge))
]

end_inserted : (p : ℕ → Bool) (xs : List ℕ) (at x j : ℕ) → at ≤ j → j ≤ length xs → IsGrown at (p x) (last_end p (take j xs)) (last_end p (take (j + 1) (insert xs at x)))
end_inserted p xs at x j from within = rw (add-one) (end_insert p xs at x j from within)

-- ---- where a bucket's keys part

-- an end among the first n is that of a key of the bucket
passes_at : (count bucket n end : ℕ) (keys : List ℕ) → n ≤ length keys → 0 < end → end ≡ end_in count bucket (take n keys) → is_in count bucket (get_or keys (end - 1) 0) ≡ true
passes_at count bucket n end keys le some is =
    let q = is_in count bucket in
    let inner = last_end-within q (take n keys) in
    let len = length-take-le n keys le in
    ap q (sym (get_or-take n keys (end - 1) 0 (omega arith))) ∙ last_passes q (take n keys) 0 (end - 1) (omega arith)

pub end_within : (count bucket n end : ℕ) (keys : List ℕ) → n ≤ length keys → end ≡ end_in count bucket (take n keys) → end ≤ n
end_within count bucket n end keys le is = let inner = last_end-within (is_in count bucket) (take n keys) in let len = length-take-le n keys le in omega arith

-- a walk along a bucket's chain back to a place: so far it came to this end, and to the one behind it before
pub record IsBack (count bucket at : ℕ) (keys : List ℕ) (end behind : ℕ) : Type 0 where
  pub from : at < behind
  pub within : behind ≤ length keys + 1
  pub next : behind ≤ length keys → is_in count bucket (get_or keys (behind - 1) 0) ≡ true
  pub same : end ≡ end_in count bucket (take (behind - 1) keys)

pub back_first : (keys before last : List ℕ) (bucket at behind : ℕ) → IsLinked keys before last → bucket < length last → at ≤ length keys → behind ≡ length keys + 1
    → IsBack (length last) bucket at keys (get_or last bucket 0) behind
back_first keys before last bucket at behind l inside le is = record {
  from = omega arith;
  within = omega arith;
  next = λ short. absurd (omega arith);
  same = (let e : behind - 1 ≡ length keys = omega arith in rw e (l.chained.each_bucket bucket inside));
}

pub back_more : (keys before last : List ℕ) (bucket at end behind place : ℕ) → IsLinked keys before last → IsBack (length last) bucket at keys end behind → at < end → place ≡ end - 1
    → IsBack (length last) bucket at keys (get_or before place 0) end
back_more keys before last bucket at end behind place l b lt is =
    let inner = end_within (length last) bucket (behind - 1) end keys (omega (arith, b.within)) b.same in
    let here = passes_at (length last) bucket (behind - 1) end keys (omega (arith, b.within)) (omega arith) b.same in
    record {
      from = lt;
      within = omega (arith, b.within);
      next = λ le. here;
      same = rw is (l.chained.each_key (end - 1) (omega (arith, b.within)) ∙ ap (λ c. end_in (length last) c (take (end - 1) keys)) (eqb-true _ _ here));
    }

pub back_smaller : (keys before last : List ℕ) (bucket at end behind place : ℕ) → IsLinked keys before last → IsBack (length last) bucket at keys end behind → at < end → place ≡ end - 1
    → (place < length before) × (get_or before place 0 < end)
back_smaller keys before last bucket at end behind place l b lt is =
    let inner = end_within (length last) bucket (behind - 1) end keys (omega (arith, b.within)) b.same in
    let more = back_more keys before last bucket at end behind place l b lt is in
    let less = end_within (length last) bucket (end - 1) (get_or before place 0) keys (omega (arith, b.within)) more.same in
    (omega (arith, b.within, l.len), omega (arith))

-- ---- a key between others

module _ (keys before last : List ℕ) (l : IsLinked keys before last) (at key bucket front behind : ℕ) (within : at < length keys) (is : bucket ≡ bucket_of (length last) key)
    (parted : IsParted (length last) bucket at keys front behind) where
  -- no other key than the first behind the place looks back over it
  alone : (j : ℕ) → at ≤ j → j ≤ length keys → j + 1 ≢ behind → (j < length keys → is_in (length last) bucket (get_or keys j 0) ≡ true) → end_in (length last) bucket (take j keys) ≤ at → ⊥
  alone j from le apart passes low = elim (cases_lt j behind) [
    | inl lt ↦ (
        let inside : j < length keys = omega (arith, parted.within, apart) in
        let there = within_front (is_in (length last) bucket) keys j (behind - 1) (omega (arith, apart)) (omega (arith, parted.within)) (passes inside) in
        let e = parted.between in
        omega (arith, parted.front_before))
    | inr ge ↦ (
        let there = within_front (is_in (length last) bucket) keys (behind - 1) j (omega (arith, parted.from)) le (parted.next (omega arith)) in
        omega (arith, parted.from))
  ]

  -- the ends before all keys and those of all buckets, once the key is there
  pub record IsThreaded (ends lasts : List ℕ) : Type 0 where
    pub len : length ends ≡ length keys + 1
    pub buckets : length lasts ≡ length last
    pub below : (i : ℕ) → i < at → get_or ends i 0 ≡ raised at (get_or before i 0)
    pub here : get_or ends at 0 ≡ front
    pub next : behind ≤ length keys → get_or ends behind 0 ≡ at + 1
    pub above : (j : ℕ) → at ≤ j → j < length keys → j + 1 ≢ behind → get_or ends (j + 1) 0 ≡ raised at (get_or before j 0)
    pub own : length keys < behind → get_or lasts bucket 0 ≡ at + 1
    pub others : (b : ℕ) → b < length last → (b ≡ bucket → behind ≤ length keys) → get_or lasts b 0 ≡ raised at (get_or last b 0)

  module _ (ends lasts : List ℕ) (t : IsThreaded ends lasts) where
    later_key : (j : ℕ) → at ≤ j → j < length keys → get_or ends (j + 1) 0 ≡ end_in (length last) (bucket_of (length last) (get_or keys j 0)) (take (j + 1) (insert keys at key))
    later_key j from lt =
        let c = bucket_of (length last) (get_or keys j 0) in
        let g = end_inserted (is_in (length last) c) keys at key j from (omega arith) in
        let was = l.chained.each_key j lt in
        elim (cases_eq (j + 1) behind) [
          | inl e ↦ (
              let place : behind - 1 ≡ j = omega arith in
              let there : c ≡ bucket = eqb-true c bucket (ap (λ n. is_in (length last) bucket (get_or keys n 0)) (sym place) ∙ parted.next (omega arith)) in
              let low : end_in (length last) c (take j keys) ≡ front = ap (λ b. end_in (length last) b (take j keys)) there ∙ ap (λ n. end_in (length last) bucket (take n keys)) (sym place) ∙ sym parted.between in
              let passes : is_in (length last) c key ≡ true = eq-eqb (bucket_of (length last) key) c (sym (there ∙ is)) in
              ap (λ n. get_or ends n 0) e ∙ t.next (omega arith) ∙ sym (g.here (omega (arith, parted.front_before)) passes))
          | inr apart ↦ t.above j from lt apart ∙ ap (raised at) was
              ∙ raised_grown at (is_in (length last) c key) _ _ g (λ low. elim (cases_eq (bucket_of (length last) key) c) [
                | inl e ↦ (
                    let there : c ≡ bucket = sym (is ∙ e) in
                    absurd (alone j from (omega arith) apart (λ inside. eq-eqb c bucket there) (subst (λ b. end_in (length last) b (take j keys) ≤ at) there low)))
                | inr other ↦ ne_eqb (bucket_of (length last) key) c other
              ])
        ]

    each_key : (i : ℕ) → i < length keys + 1 → get_or ends i 0 ≡ end_in (length last) (bucket_of (length last) (get_or (insert keys at key) i 0)) (take i (insert keys at key))
    each_key i lt = elim (cases_lt i at) [
      | inl less ↦ (
          let was = l.chained.each_key i (omega arith) in
          let low = end_within (length last) (bucket_of (length last) (get_or keys i 0)) i (get_or before i 0) keys (omega arith) was in
          let same = get_or-insert_below keys at key 0 i less (omega arith) in
          let front_same = take_insert keys at key i (omega arith) (omega arith) in
          rw (same, front_same) (t.below i less ∙ raised_not at (get_or before i 0) (omega arith) ∙ was))
      | inr ge ↦ elim (cases_eq i at) [
        | inl e ↦ (
            let same = get_or-insert_at keys at key 0 (omega arith) in
            let front_same = take_insert keys at key at (omega arith) (omega arith) in
            rw (e, same, front_same) (t.here ∙ front_is))
        | inr apart ↦ (
            let e : i ≡ (i - 1) + 1 = omega (arith, apart) in
            let same = get_or-insert_above keys at key 0 (i - 1) (omega (arith, apart)) (omega arith) in
            let P : ℕ → Type 0 = λ n. get_or ends n 0 ≡ end_in (length last) (bucket_of (length last) (get_or (insert keys at key) n 0)) (take n (insert keys at key)) in
            subst P (sym e) (rw same (later_key (i - 1) (omega (arith, apart)) (omega (arith, apart)))))
      ]
    ]
      where
        front_is : front ≡ end_in (length last) (bucket_of (length last) key) (take at keys)
        front_is = rw (sym is) (front_at)
          where
            front_at : front ≡ end_in (length last) bucket (take at keys)
            front_at = parted.between ∙ sym (front_end (is_in (length last) bucket) (take (behind - 1) keys) at (let e = parted.between in omega (arith, parted.front_before)))
                ∙ ap (last_end (is_in (length last) bucket)) (take-take at (behind - 1) keys (omega (arith, parted.from)))

    each_bucket : (b : ℕ) → b < length last → get_or lasts b 0 ≡ end_in (length last) b (take (length keys + 1) (insert keys at key))
    each_bucket b lt =
        let g = end_inserted (is_in (length last) b) keys at key (length keys) (omega arith) (omega arith) in
        let was = l.chained.each_bucket b lt in
        elim (cases_eq b bucket) [
          | inl e ↦ elim (cases_lt (length keys) behind) [
            | inl beyond ↦ (
                let place : behind - 1 ≡ length keys = omega (arith, parted.within) in
                let low : end_in (length last) b (take (length keys) keys) ≡ front = ap (λ c. end_in (length last) c (take (length keys) keys)) e ∙ ap (λ n. end_in (length last) bucket (take n keys)) (sym place) ∙ sym parted.between in
                let passes : is_in (length last) b key ≡ true = eq-eqb (bucket_of (length last) key) b (sym (e ∙ is)) in
                ap (λ n. get_or lasts n 0) e ∙ t.own beyond ∙ sym (g.here (omega (arith, parted.front_before)) passes))
            | inr short ↦ t.others b lt (λ _. short) ∙ ap (raised at) was
                ∙ raised_grown at (is_in (length last) b key) _ _ g (λ low. absurd (alone (length keys) (omega arith) (omega arith) (λ is. omega arith) (λ inside. absurd (omega arith)) (subst (λ c. end_in (length last) c (take (length keys) keys) ≤ at) e low)))
          ]
          | inr apart ↦ t.others b lt (λ e. absurd (apart e)) ∙ ap (raised at) was
              ∙ raised_grown at (is_in (length last) b key) _ _ g (λ low. ne_eqb (bucket_of (length last) key) b (λ e. apart (sym (is ∙ e))))
        ]

    pub linked_between : IsLinked (insert keys at key) ends lasts
    linked_between =
        let long = length-insert keys at key (omega arith) in
        record {
          len = t.len ∙ sym long;
          buckets = λ some. rw t.buckets (l.buckets (omega arith));
          chained = rw (t.buckets, long) (record { each_key = each_key; each_bucket = each_bucket });
        }

  -- all ends are raised, the key's own is put in, and what looks back to it is set
  module _ (ends lasts : List ℕ) (len : length ends ≡ length before) (each : (i : ℕ) → i < length before → get_or ends i 0 ≡ raised at (get_or before i 0))
      (buckets : length lasts ≡ length last) (each_last : (b : ℕ) → b < length last → get_or lasts b 0 ≡ raised at (get_or last b 0)) where
    pub threaded_key : behind ≤ length keys → IsThreaded (set (insert ends at front) behind (at + 1)) lasts
    threaded_key short =
        let long = length-insert ends at front (omega (arith, l.len)) in
        let put = insert ends at front in
        record {
          len = length-set put behind (at + 1) ∙ omega (arith, l.len);
          buckets = buckets;
          below = λ i lt. get_or-set_other put behind i (at + 1) 0 (λ e. omega (arith, parted.from)) ∙ get_or-insert_below ends at front 0 i lt (omega (arith, l.len)) ∙ each i (omega (arith, l.len));
          here = get_or-set_other put behind at (at + 1) 0 (λ e. omega (arith, parted.from)) ∙ get_or-insert_at ends at front 0 (omega (arith, l.len));
          next = λ le. get_or-set_same put behind (at + 1) 0 (omega (arith, l.len));
          above = λ j from lt apart. get_or-set_other put behind (j + 1) (at + 1) 0 apart ∙ get_or-insert_above ends at front 0 j from (omega (arith, l.len)) ∙ each j (omega (arith, l.len));
          own = λ beyond. absurd (omega arith);
          others = λ b lt le. each_last b lt;
        }

    pub threaded_bucket : bucket < length last → length keys < behind → IsThreaded (insert ends at front) (set lasts bucket (at + 1))
    threaded_bucket inside beyond =
        let long = length-insert ends at front (omega (arith, l.len)) in
        record {
          len = omega (arith, l.len);
          buckets = length-set lasts bucket (at + 1) ∙ buckets;
          below = λ i lt. get_or-insert_below ends at front 0 i lt (omega (arith, l.len)) ∙ each i (omega (arith, l.len));
          here = get_or-insert_at ends at front 0 (omega (arith, l.len));
          next = λ le. absurd (omega arith);
          above = λ j from lt apart. get_or-insert_above ends at front 0 j from (omega (arith, l.len)) ∙ each j (omega (arith, l.len));
          own = λ _. get_or-set_same lasts bucket (at + 1) 0 (omega arith);
          others = λ b lt le. get_or-set_other lasts bucket b (at + 1) 0 (λ e. let short = le e in omega arith) ∙ each_last b lt;
        }

-- no end lies beyond all keys
pub ends_fit : (keys before last : List ℕ) → IsLinked keys before last → (i : ℕ) → i < length before → get_or before i 0 ≤ length keys
ends_fit keys before last l i lt =
    let e = end_within (length last) (bucket_of (length last) (get_or keys i 0)) i (get_or before i 0) keys (omega (arith, l.len)) (l.chained.each_key i (omega (arith, l.len))) in
    omega (arith, l.len)

pub lasts_fit : (keys before last : List ℕ) → IsLinked keys before last → (b : ℕ) → b < length last → get_or last b 0 ≤ length keys
lasts_fit keys before last l b lt = end_within (length last) b (length keys) (get_or last b 0) keys (omega arith) (l.chained.each_bucket b lt)

-- an insert that has room succeeds
pub ok_is : {A B X : Type 0} (r : Result A B) (x y z : X) → IsOk r → z ≡ cond (is_ok r) x y → z ≡ x
ok_is (Ok a) x y z ok e = e
ok_is (Err b) x y z ok e = cc
