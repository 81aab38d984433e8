-- Keys in the order of age: the order, and what halves find.
use Rattle.std.proofs.Common.{◌≡◌, ℕ, ◌+◌, ◌-◌, ◌<◌, ◌≤◌, true, false, List, length, get_or, nat_eq, nat_lt, nat_le, sym, ap, ◌∙◌, subst, inl, inr, arith}
use Rattle.std.specs.List.{insert, slice_range, Contains}
use Rattle.std.specs.List.Sorted.{IsNonDecreasingBy, IsPartitionedBy, IsPartitionPoint}
use Rattle.std.proofs.lemmas.Bool.{cases_lt, cases_order, ltb-true, ltb-false, leb-true, leb-false, eq-eqb, ne_eqb}
use Rattle.std.proofs.lemmas.Bool.Decides.{nat_tests}
use Rattle.std.proofs.lemmas.List.Edits.{length-insert, get_or-insert_below, get_or-insert_at, get_or-insert_above}
use Rattle.lang_lists.specs.Ages.{is_before, of_code, IsRising}
use Rattle.lang_lists.specs.declared.age_keys.AgeKey.{AgeKey}
use Rattle.lang_lists.proofs.SumLemmas.{filter_range}

-- ---- the order

pub not_itself : (a : AgeKey) → is_before a a ≡ false
not_itself a = grind (arith, nat_tests)

pub not_back : (a b : AgeKey) → is_before a b ≡ true → is_before b a ≡ false
not_back a b h = grind (arith, nat_tests)

pub earlier : (a b c : AgeKey) → is_before b a ≡ false → is_before b c ≡ true → is_before a c ≡ true
earlier a b c g h = grind (arith, nat_tests)

pub codes_rise : (a b : AgeKey) → is_before b a ≡ false → a.code ≤ b.code
codes_rise a b h = grind (arith, nat_tests)

pub same_key : (a b : AgeKey) → is_before a b ≡ false → is_before b a ≡ false → a ≡ b
same_key a b g h = grind (arith, nat_tests)

-- ---- where keys stand

module _ (keys : List AgeKey) (rising : IsRising keys) where
  pub parted_before : (key : AgeKey) → IsPartitionedBy (λ k. is_before k key) keys
  parted_before key i j d le lt h = elim (cases_lt i j) [
    | inl less ↦ earlier (get_or keys i d) (get_or keys j d) key (rising i j d less lt) h
    | inr ge ↦ (let e : i ≡ j = omega arith in ap (λ n. is_before (get_or keys n d) key) e ∙ h)
  ]

  pub codes : IsNonDecreasingBy (λ (k : AgeKey). k.code) keys
  codes i j d le lt = elim (cases_lt i j) [
    | inl less ↦ codes_rise (get_or keys i d) (get_or keys j d) (rising i j d less lt)
    | inr ge ↦ (let e : i ≡ j = omega arith in let same = ap (λ n. (get_or keys n d).code) e in omega arith)
  ]

  module _ (key : AgeKey) (at : ℕ) (parted : IsPartitionPoint (λ k. is_before k key ≡ true) (λ k. is_before k key ≡ false) keys at) where
    -- a key that is there stands where those before it end
    pub stands_at : Contains keys key → (at < length keys) × (get_or keys at key ≡ key)
    stands_at (j, lt, is) =
        let here : is_before (get_or keys j key) key ≡ false = ap (λ k. is_before k key) is ∙ not_itself key in
        let from : at ≤ j = elim (cases_lt j at) [
          | inl less ↦ (let before = parted.0 j key (omega arith) less in cc)
          | inr ge ↦ ge
        ] in
        elim (cases_lt at j) [
          | inl less ↦ (
            omega arith,
            same_key (get_or keys at key) key (parted.1 at key (omega arith) (omega arith))
                (ap (λ k. is_before k (get_or keys at key)) (sym is) ∙ rising at j key less lt),
          )
          | inr ge ↦ (let e : at ≡ j = omega arith in (omega arith, ap (λ n. get_or keys n key) e ∙ is))
        ]

    -- one more key there leaves keys that rise
    pub rising_insert : at ≤ length keys → IsRising (insert keys at key)
    rising_insert within i j d less lt =
        let long = length-insert keys at key within in
        elim (cases_order i at) [
          | inl is ↦ (let e = ap (λ n. get_or (insert keys at key) n d) is ∙ get_or-insert_at keys at key d within in
              let f = after j (omega arith) in
              rw (e, f) (parted.1 (j - 1) d (omega arith) (omega arith)))
          | inr (inl below) ↦ (let e = get_or-insert_below keys at key d i below within in rw e (elim (cases_order j at) [
            | inl is ↦ (let f = ap (λ n. get_or (insert keys at key) n d) is ∙ get_or-insert_at keys at key d within in
                rw f (not_back (get_or keys i d) key (parted.0 i d (omega arith) below)))
            | inr (inl lower) ↦ (let f = get_or-insert_below keys at key d j lower within in rw f (rising i j d less (omega arith)))
            | inr (inr above) ↦ (let f = after j above in rw f (rising i (j - 1) d (omega arith) (omega arith)))
          ]))
          | inr (inr above) ↦ (let e = after i above in let f = after j (omega arith) in rw (e, f) (rising (i - 1) (j - 1) d (omega arith) (omega arith)))
        ]
      where
        after : (n : ℕ) → at < n → get_or (insert keys at key) n d ≡ get_or keys (n - 1) d
        after n above = subst (λ q. get_or (insert keys at key) q d ≡ get_or keys (n - 1) d) {x = n - 1 + 1} (omega arith) (get_or-insert_above keys at key d (n - 1) (omega arith) within)

  -- those of a code stand between those of lower codes and those of higher ones
  module _ (code low high : ℕ) (below : IsPartitionPoint (λ (k : AgeKey). nat_lt k.code code ≡ true) (λ (k : AgeKey). nat_lt k.code code ≡ false) keys low)
      (to : IsPartitionPoint (λ (k : AgeKey). nat_le k.code code ≡ true) (λ (k : AgeKey). nat_le k.code code ≡ false) keys high) where
    pub ends_rise : low ≤ length keys → low ≤ high
    ends_rise within = elim (cases_lt high low) [
      | inl less ↦ absurd (clash less)
      | inr ge ↦ ge
    ]
      where
        clash : high < low → ⊥
        clash less = (let d : AgeKey = record { code = 0; since = 0; number = 0 } in
            let a = ltb-true _ _ (below.0 high d (omega arith) less) in
            let b = leb-false _ _ (to.1 high d (omega arith) (omega arith)) in omega arith)

    pub of_code_range : low ≤ high → high ≤ length keys → slice_range keys low high ≡ of_code code keys
    of_code_range le within =
        filter_range (λ (k : AgeKey). nat_eq k.code code) keys low (high - low) (omega arith)
        (λ i d lt. ne_eqb _ _ (let a = ltb-true _ _ (below.0 i d (omega arith) lt) in omega arith))
        (λ i d from lt. eq-eqb _ _ (let a = ltb-false _ _ (below.1 i d from (omega arith)) in let b = leb-true _ _ (to.0 i d (omega arith) (omega arith)) in omega arith))
        (λ i d from lt. ne_eqb _ _ (let a = leb-false _ _ (to.1 i d (omega arith) lt) in omega arith))
