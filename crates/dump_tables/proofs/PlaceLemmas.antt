-- The place of the entry that has a call.
use Rattle.std.proofs.Common.{◌≡◌, inl, inr, ℕ, zero, suc, ◌+◌, ◌-◌, ◌<◌, ◌≤◌, true, false, List, [], ◌∷◌, ◌++◌, Option, Some, None, length, map, get_or, slice_get, nat_eq, ltb, refl, sym, ap, ◌∙◌, subst, arith, length-append, append_assoc, append-nil, eqb-true}
use Rattle.std.specs.Cmp.{nat_eq_equiv}
use Rattle.std.specs.List.{flat_map, list_any}
use Rattle.std.proofs.lemmas.List.{length-map, map-append}
use Rattle.std.proofs.lemmas.List.Elements.{Contains-get_or}
use Rattle.std.proofs.lemmas.Option.{slice_get-get_or}
use Rattle.std.proofs.lemmas.Bool.{cases_lt}
use Rattle.std.proofs.lemmas.List.Folds.{list_any_at}
use Rattle.lang_lists.specs.Ends.{last_end}
use Rattle.lang_lists.proofs.HashEndLemmas.{last_end-within, last_passes}
use Rattle.dump_tables.specs.Found.{IsOneOf}
use Rattle.dump_tables.specs.Indexed.{AreIndexed, call_numbers, entry_key, has_number, number_of, place_at, places_from}
use Rattle.dump_tables.specs.declared.dump.DumpEntry.{DumpEntry}
use Rattle.dump_tables.proofs.FoundLemmas.{any_end, any_flat}

pub places_len : (n : ℕ) (entries : List DumpEntry) → length (places_from n entries) ≡ length (flat_map call_numbers entries)
places_len n [] = refl
places_len n (e ∷ entries) =
    omega (arith, length-append (map (λ (_ : ℕ). n) e.numbers) (places_from (n + 1) entries), length-append e.numbers (flat_map call_numbers entries), length-map e.numbers (λ (_ : ℕ). n), places_len (n + 1) entries)

-- one entry more
pub places_push : (n : ℕ) (entries : List DumpEntry) (e : DumpEntry) → places_from n (entries ++ e ∷ []) ≡ places_from n entries ++ map (λ _. n + length entries) e.numbers
places_push n [] e =
    let same : n ≡ n + 0 = omega arith in
    append-nil (map (λ (_ : ℕ). n) e.numbers) ∙ ap (λ m. map (λ (_ : ℕ). m) e.numbers) same
places_push n (d ∷ entries) e =
    let same : (n + 1) + length entries ≡ n + suc (length entries) = omega arith in
    ap (λ rest. map (λ (_ : ℕ). n) d.numbers ++ rest) (places_push (n + 1) entries e ∙ ap (λ m. places_from (n + 1) entries ++ map (λ (_ : ℕ). m) e.numbers) same)
    ∙ sym (append_assoc (map (λ (_ : ℕ). n) d.numbers) (places_from (n + 1) entries) (map (λ _. n + suc (length entries)) e.numbers))

-- an entry at this place has a call of this number
pub record HasCall (n : ℕ) (entries : List DumpEntry) (number place : ℕ) : Type 0 where
  pub from : n ≤ place
  pub within : place < n + length entries
  pub has : (d : DumpEntry) → has_number number (get_or entries (place - n) d) ≡ true

get_front : (xs ys : List ℕ) (k d : ℕ) → k < length xs → get_or (xs ++ ys) k d ≡ get_or xs k d
get_front [] ys k d lt = absurd (omega (arith, lt))
get_front (x ∷ xs) ys zero d lt = refl
get_front (x ∷ xs) ys (suc k) d lt = get_front xs ys k d (omega (arith, lt))

get_back : (xs ys : List ℕ) (k d : ℕ) → length xs ≤ k → get_or (xs ++ ys) k d ≡ get_or ys (k - length xs) d
get_back [] ys k d le = let e : k ≡ k - 0 = omega arith in ap (λ i. get_or ys i d) e
get_back (x ∷ xs) ys zero d le = absurd (omega (arith, le))
get_back (x ∷ xs) ys (suc k) d le = let e : suc k - suc (length xs) ≡ k - length xs = omega arith in get_back xs ys k d (omega (arith, le)) ∙ ap (λ i. get_or ys i d) (sym e)

get_same : (n : ℕ) (xs : List ℕ) (k d : ℕ) → k < length xs → get_or (map (λ _. n) xs) k d ≡ n
get_same n [] k d lt = absurd (omega (arith, lt))
get_same n (x ∷ xs) zero d lt = refl
get_same n (x ∷ xs) (suc k) d lt = get_same n xs k d (omega (arith, lt))

is_there : (number : ℕ) (xs : List ℕ) (k : ℕ) → k < length xs → get_or xs k 0 ≡ number → list_any (nat_eq number) xs ≡ true
is_there number xs k lt is = list_any_at (nat_eq number) xs k 0 lt (ap (nat_eq number) is ∙ nat_eq_equiv.refl number)

module _ (number : ℕ) where
  later_entry : (n : ℕ) (e : DumpEntry) (entries : List DumpEntry) (place : ℕ) → HasCall (n + 1) entries number place → HasCall n (e ∷ entries) number place
  later_entry n e entries place there =
      let at : place - n ≡ suc (place - (n + 1)) = omega (arith, there.from) in
      record {
        from = omega (arith, there.from);
        within = omega (arith, there.within);
        has = λ d. ap (λ i. has_number number (get_or (e ∷ entries) i d)) at ∙ there.has d;
      }

  here_entry : (n k : ℕ) (e : DumpEntry) (entries : List DumpEntry) → k < length e.numbers → get_or (e.numbers ++ flat_map call_numbers entries) k 0 ≡ number
      → HasCall n (e ∷ entries) number (get_or (map (λ _. n) e.numbers ++ places_from (n + 1) entries) k 0)
  here_entry n k e entries lt is =
      let len : k < length (map (λ (_ : ℕ). n) e.numbers) = omega (arith, lt, length-map e.numbers (λ (_ : ℕ). n)) in
      let at : get_or (map (λ (_ : ℕ). n) e.numbers ++ places_from (n + 1) entries) k 0 ≡ n = get_front (map (λ (_ : ℕ). n) e.numbers) (places_from (n + 1) entries) k 0 len ∙ get_same n e.numbers k 0 lt in
      let first : n - n ≡ 0 = omega arith in
      subst (λ (place : ℕ). HasCall n (e ∷ entries) number place) (sym at)
      (record {
        from = omega arith;
        within = omega arith;
        has = λ d. ap (λ i. has_number number (get_or (e ∷ entries) i d)) first ∙ is_there number e.numbers k lt (sym (get_front e.numbers (flat_map call_numbers entries) k 0 lt) ∙ is);
      })

  pub has_call : (n k : ℕ) (entries : List DumpEntry) → k < length (flat_map call_numbers entries) → get_or (flat_map call_numbers entries) k 0 ≡ number
      → HasCall n entries number (get_or (places_from n entries) k 0)
  has_call n k [] lt is = absurd (omega (arith, lt))
  has_call n k (e ∷ entries) lt is = elim (cases_lt k (length e.numbers)) [
    | inl first ↦ here_entry n k e entries first is
    | inr behind ↦ (
        let less = k - length e.numbers in
        let len : length (map (λ (_ : ℕ). n) e.numbers) ≡ length e.numbers = length-map e.numbers (λ (_ : ℕ). n) in
        let short : less < length (flat_map call_numbers entries) = omega (arith, lt, behind, length-append e.numbers (flat_map call_numbers entries)) in
        let at : get_or (map (λ (_ : ℕ). n) e.numbers ++ places_from (n + 1) entries) k 0 ≡ get_or (places_from (n + 1) entries) less 0 =
        get_back (map (λ (_ : ℕ). n) e.numbers) (places_from (n + 1) entries) k 0 (omega (arith, len, behind)) ∙ ap (λ m. get_or (places_from (n + 1) entries) (k - m) 0) len in
        subst (λ (place : ℕ). HasCall n (e ∷ entries) number place) (sym at)
        (later_entry n e entries (get_or (places_from (n + 1) entries) less 0)
        (has_call (n + 1) less entries short (sym (get_back e.numbers (flat_map call_numbers entries) k 0 behind) ∙ is)))
        )
  ]

-- the entry at a place that a search gave, or that none has such a call
abbrev pub IsPlaced : ℕ → List DumpEntry → Option ℕ → Type 0
IsPlaced number entries None = list_any (has_number number) entries ≡ false
IsPlaced number entries (Some place) = (place < length entries) × ((d : DumpEntry) → has_number number (get_or entries place d) ≡ true)

no_call : (number : ℕ) (entries : List DumpEntry) → last_end (nat_eq number) (flat_map call_numbers entries) ≡ 0 → list_any (has_number number) entries ≡ false
no_call number entries none =
    sym (any_flat (nat_eq number) call_numbers entries) ∙ sym (any_end (nat_eq number) (flat_map call_numbers entries)) ∙ ap (λ end. ltb 0 end) none

placed_at : (number : ℕ) (entries : List DumpEntry) (end : ℕ) → last_end (nat_eq number) (flat_map call_numbers entries) ≡ end → IsPlaced number entries (place_at (places_from 0 entries) end)
placed_at number entries zero is = no_call number entries is
placed_at number entries (suc k) is =
    let lt : k < length (flat_map call_numbers entries) = omega (arith, is, last_end-within (nat_eq number) (flat_map call_numbers entries)) in
    let passes = last_passes (nat_eq number) (flat_map call_numbers entries) 0 k is in
    let there = has_call number 0 k entries lt (sym (eqb-true number (get_or (flat_map call_numbers entries) k 0) passes)) in
    let place = get_or (places_from 0 entries) k 0 in
    let same : place ≡ place - 0 = omega arith in
    (omega (arith, there.within), λ d. ap (λ i. has_number number (get_or entries i d)) same ∙ there.has d)

pub placed : (number : ℕ) (entries : List DumpEntry) (ids origins calls places : List ℕ) → AreIndexed entries ids origins calls places → IsPlaced number entries (place_at places (last_end (nat_eq number) calls))
placed number entries ids origins calls places kept =
    rw (kept.by_call, kept.by_place) (placed_at number entries (last_end (nat_eq number) (flat_map call_numbers entries)) refl)

pub place_before : (places : List ℕ) (end : ℕ) → 0 < end → place_at places end ≡ Some (get_or places (end - 1) 0)
place_before places zero some = absurd (omega (arith, some))
place_before places (suc n) some = let e : n ≡ suc n - 1 = omega arith in ap (λ i. Some (get_or places i 0)) e

-- the entry at a place that has the call
pub at_place : (number : ℕ) (entries : List DumpEntry) (place : ℕ) → IsPlaced number entries (Some place) → IsOneOf (has_number number) entries (slice_get entries place)
at_place number [] place there = let none = there.0 in absurd (omega (arith, none))
at_place number (e ∷ entries) place there =
    subst (IsOneOf (has_number number) (e ∷ entries)) (sym (slice_get-get_or (e ∷ entries) place e there.0)) (Contains-get_or (e ∷ entries) place e there.0, there.1 e)

-- ---- one entry more

pub indexed_push : (entries : List DumpEntry) (e : DumpEntry) (place key : ℕ) (numbers : List ℕ) (ids origins calls places : List ℕ) (entries_now : List DumpEntry) (ids_now origins_now calls_now places_now : List ℕ)
    → AreIndexed entries ids origins calls places → entries_now ≡ entries ++ e ∷ [] → ids_now ≡ ids ++ e.id ∷ [] → origins_now ≡ origins ++ key ∷ [] → calls_now ≡ calls ++ numbers
    → places_now ≡ places ++ map (λ _. place) numbers → key ≡ entry_key e → numbers ≡ e.numbers → place ≡ length entries
    → AreIndexed entries_now ids_now origins_now calls_now places_now
indexed_push entries e place key numbers ids origins calls places entries_now ids_now origins_now calls_now places_now kept items by_id by_origin by_call by_place keyed numbered placed =
    subst (λ (es : List DumpEntry). AreIndexed es ids_now origins_now calls_now places_now) (sym items)
    (record {
      by_id = by_id ∙ ap (λ (l : List ℕ). l ++ e.id ∷ []) kept.by_id ∙ sym (map-append number_of entries (e ∷ []));
      by_origin = by_origin ∙ ap (λ (l : List ℕ). l ++ key ∷ []) kept.by_origin ∙ ap (λ k. map entry_key entries ++ k ∷ []) keyed ∙ sym (map-append entry_key entries (e ∷ []));
      by_call = by_call ∙ ap (λ (l : List ℕ). l ++ numbers) kept.by_call ∙ ap (λ ns. flat_map call_numbers entries ++ ns) numbered ∙ sym (flat_push entries);
      by_place = by_place ∙ ap (λ (l : List ℕ). l ++ map (λ _. place) numbers) kept.by_place ∙ ap (λ ns. places_from 0 entries ++ map (λ _. place) ns) numbered
          ∙ ap (λ n. places_from 0 entries ++ map (λ _. n) e.numbers) (at_end placed) ∙ sym (places_push 0 entries e);
    })
  where
    at_end : place ≡ length entries → place ≡ 0 + length entries
    at_end is = omega (arith, is)

    flat_push : (es : List DumpEntry) → flat_map call_numbers (es ++ e ∷ []) ≡ flat_map call_numbers es ++ e.numbers
    flat_push [] = append-nil e.numbers
    flat_push (d ∷ es) = ap (λ rest. d.numbers ++ rest) (flat_push es) ∙ sym (append_assoc d.numbers (flat_map call_numbers es) e.numbers)
