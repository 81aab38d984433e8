-- Chains as they grow, and a walk along one.
use Rattle.std.proofs.Common.{◌≡◌, ◌≢◌, ℕ, suc, ◌+◌, ◌-◌, ◌<◌, ◌≤◌, Bool, true, false, cond, List, [], ◌∷◌, ◌++◌, length, take, set, get_or, nat_eq, refl, sym, ap, ◌∙◌, subst, inl, inr, arith, add-one, eq-eqb, eqb-true, get_or-set_same, get_or-set_other, take-suc}
use Rattle.std.proofs.lemmas.Bool.{ne_eqb, cases_eq}
use Rattle.std.proofs.lemmas.Nat.{mod_below}
use Rattle.std.proofs.lemmas.List.{length-take-le, take-take, take_all, take_at, take-append-le, get_or-take, get_or_append_left}
use Rattle.lang_lists.specs.Ends.{last_end}
use Rattle.lang_lists.specs.Chains.{bucket_of, is_in, end_in, IsChained, IsLinked}
use Rattle.lang_lists.proofs.HashEndLemmas.{last_end-within, last_end-append, last_end-narrow, last_passes}

-- ---- growing

end_more : (p : ℕ → Bool) (keys : List ℕ) (n : ℕ) → n < length keys → last_end p (take (n + 1) keys) ≡ cond (p (get_or keys n 0)) (n + 1) (last_end p (take n keys))
end_more p keys n lt =
    rw (add-one, take-suc keys n 0 lt)
    (last_end-append p (take n keys) (get_or keys n 0) ∙ ap (λ m. cond (p (get_or keys n 0)) (suc m) (last_end p (take n keys))) (length-take-le n keys (omega arith)))

key_more : (count n : ℕ) (keys before last : List ℕ) (v : ℕ) → n < length before → v ≡ end_in count (bucket_of count (get_or keys n 0)) (take n keys) → IsChained count n keys before last
    → (i : ℕ) → i < n + 1 → get_or (set before n v) i 0 ≡ end_in count (bucket_of count (get_or keys i 0)) (take i keys)
key_more count n keys before last v within is c i lt = elim (cases_eq i n) [
  | inl e ↦ rw e (get_or-set_same before n v 0 within ∙ is)
  | inr apart ↦ get_or-set_other before n i v 0 apart ∙ c.each_key i (omega (arith, apart))
]

bucket_more : (count n : ℕ) (keys before last : List ℕ) → n < length keys → length last ≡ count → bucket_of count (get_or keys n 0) < count → IsChained count n keys before last
    → (b : ℕ) → b < count → get_or (set last (bucket_of count (get_or keys n 0)) (n + 1)) b 0 ≡ end_in count b (take (n + 1) keys)
bucket_more count n keys before last within len inside c b lt =
    let here = bucket_of count (get_or keys n 0) in
    elim (cases_eq b here) [
      | inl e ↦ (let is : is_in count b (get_or keys n 0) ≡ true = eq-eqb here b (sym e) in
          rw (end_more (is_in count b) keys n within, is, e) (get_or-set_same last here (n + 1) 0 (rw len inside)))
      | inr apart ↦ (let is : is_in count b (get_or keys n 0) ≡ false = ne_eqb here b (λ e. apart (sym e)) in
          rw (end_more (is_in count b) keys n within, is) (get_or-set_other last here b (n + 1) 0 apart ∙ c.each_bucket b lt))
    ]

-- the key at a place, put into its chain
pub chained_more : (count n : ℕ) (keys before last : List ℕ) → n < length keys → length before ≡ length keys → length last ≡ count → 0 < count → IsChained count n keys before last
    → IsChained count (n + 1) keys (set before n (get_or last (bucket_of count (get_or keys n 0)) 0)) (set last (bucket_of count (get_or keys n 0)) (n + 1))
chained_more count n keys before last within len buckets some c =
    let here = bucket_of count (get_or keys n 0) in
    let inside : here < count = mod_below (get_or keys n 0) count some in
    record {
      each_key = key_more count n keys before last (get_or last here 0) (omega arith) (c.each_bucket here inside) c;
      each_bucket = bucket_more count n keys before last within buckets inside c;
    }

-- where no bucket has a chain yet
pub chained_none : (count : ℕ) (keys before last : List ℕ) → ((b : ℕ) → b < count → get_or last b 0 ≡ 0) → IsChained count 0 keys before last
chained_none count keys before last empty = record { each_key = λ i lt. absurd (omega (arith, lt)); each_bucket = empty }

-- one key more, which isn't in its chain yet
pub chained_before : (keys before last : List ℕ) (key v : ℕ) → IsLinked keys before last → IsChained (length last) (length keys) (keys ++ key ∷ []) (before ++ v ∷ []) last
chained_before keys before last key v l = record {
  each_key = λ i lt. rw (get_or_append_left before (v ∷ []) 0 i (rw l.len lt), get_or_append_left keys (key ∷ []) 0 i lt, take-append-le i keys (key ∷ []) (omega (arith, lt)))
      (l.chained.each_key i lt);
  each_bucket = λ b lt. rw (take_at keys (key ∷ []) (length keys) refl) (rw (take_all (length keys) keys (omega arith)) at (l.chained.each_bucket b lt));
}

-- ---- a walk

in_no_other : (count key x : ℕ) → is_in count (bucket_of count key) x ≡ false → nat_eq key x ≡ false
in_no_other count key x out = elim (cases_eq key x) [
  | inl e ↦ (let inside : is_in count (bucket_of count key) x ≡ true = eq-eqb (bucket_of count x) (bucket_of count key) (ap (bucket_of count) (sym e)) in cc)
  | inr apart ↦ ne_eqb key x apart
]

-- an end from which a walk along a key's chain finds what is the key among the first n
pub record IsStart (count key n : ℕ) (keys : List ℕ) (end : ℕ) : Type 0 where
  pub within : end ≤ n
  pub same : last_end (nat_eq key) (take n keys) ≡ last_end (nat_eq key) (take end keys)
  pub chained : 0 < end → is_in count (bucket_of count key) (get_or keys (end - 1) 0) ≡ true

start_at : (count key n : ℕ) (keys : List ℕ) → n ≤ length keys → IsStart count key n keys (end_in count (bucket_of count key) (take n keys))
start_at count key n keys le =
    let q = is_in count (bucket_of count key) in
    let end = last_end q (take n keys) in
    let len : length (take n keys) ≡ n = length-take-le n keys le in
    let within : end ≤ n = omega (arith, last_end-within q (take n keys)) in
    record {
      within = within;
      same = last_end-narrow (nat_eq key) q (in_no_other count key) (take n keys) ∙ ap (last_end (nat_eq key)) (take-take end n keys within);
      chained = λ some. (let passes = last_passes q (take n keys) 0 (end - 1) (omega (arith, some)) in
          ap q (sym (get_or-take n keys (end - 1) 0 (omega (arith, some)))) ∙ passes);
    }

pub start : (count key n : ℕ) (keys : List ℕ) (end : ℕ) → n ≤ length keys → end ≡ end_in count (bucket_of count key) (take n keys) → IsStart count key n keys end
start count key n keys end le is = let P : ℕ → Type 0 = λ e. IsStart count key n keys e in subst P (sym is) (start_at count key n keys le)

-- where all keys are looked at
pub start_all : (keys before last : List ℕ) (key : ℕ) → IsLinked keys before last → 0 < length last
    → IsStart (length last) key (length keys) keys (get_or last (bucket_of (length last) key) 0)
start_all keys before last key l some = start (length last) key (length keys) keys _ (omega arith) (l.chained.each_bucket (bucket_of (length last) key) (mod_below key (length last) some))

-- those before a place, by the chain of the key there
pub start_before : (keys before last : List ℕ) (key n : ℕ) → IsLinked keys before last → n < length keys → is_in (length last) (bucket_of (length last) key) (get_or keys n 0) ≡ true
    → IsStart (length last) key n keys (get_or before n 0)
start_before keys before last key n l lt inside =
    let same : bucket_of (length last) (get_or keys n 0) ≡ bucket_of (length last) key = eqb-true _ _ inside in
    start (length last) key n keys (get_or before n 0) (omega arith) (l.chained.each_key n lt ∙ ap (λ b. end_in (length last) b (take n keys)) same)

-- a key that isn't the one that is sought is passed over
pub passed : (keys : List ℕ) (key n end : ℕ) → 0 < end → n ≡ end - 1 → n < length keys → get_or keys n 0 ≢ key → last_end (nat_eq key) (take end keys) ≡ last_end (nat_eq key) (take n keys)
passed keys key n end some is lt apart =
    let same : end ≡ n + 1 = omega arith in
    let no : nat_eq key (get_or keys n 0) ≡ false = ne_eqb key (get_or keys n 0) (λ e. apart (sym e)) in
    rw (same, end_more (nat_eq key) keys n lt, no) refl

-- a key that is the one that is sought is its end
pub reached : (keys : List ℕ) (key n end : ℕ) → 0 < end → n ≡ end - 1 → n < length keys → get_or keys n 0 ≡ key → last_end (nat_eq key) (take end keys) ≡ end
reached keys key n end some is lt found =
    let same : end ≡ n + 1 = omega arith in
    let yes : nat_eq key (get_or keys n 0) ≡ true = eq-eqb key (get_or keys n 0) (sym found) in
    rw (same, end_more (nat_eq key) keys n lt, yes) refl
