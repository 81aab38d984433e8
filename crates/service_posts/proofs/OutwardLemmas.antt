-- The neighbours of a call that stands once are the nearest ones before and behind it.
use Rattle.std.proofs.Common.{◌≡◌, ◌∙◌, refl, sym, ap, subst, ℕ, ◌+◌, ◌<◌, ◌≤◌, Bool, true, false, cond, List, [], ◌∷◌, ◌++◌, take, drop, Option, Some, None, IsSomeAnd, filter, find, fold, IfSome, get_or, is_some, length, map, nat_eq, position, slice_get, inl, inr, arith}
use Rattle.std.specs.List.{after_first, before_first, last_or}
use Rattle.std.specs.Option.{option_map_or, option_or}
use Rattle.std.proofs.lemmas.Bool.{cases_Bool, eqb-true}
use Rattle.std.proofs.lemmas.Bool.Decides.{nat_tests}
use Rattle.std.proofs.lemmas.List.{append_assoc, append-nil, drop_more, take_more, take-append-drop}
use Rattle.std.proofs.lemmas.List.Concat.{flat_map-append, flat_map-cons}
use Rattle.std.proofs.lemmas.List.Elements.{filter-append}
use Rattle.std.proofs.lemmas.List.Folds.{find-append}
use Rattle.std.proofs.lemmas.List.Quantifiers.{position-Some}
use Rattle.std.proofs.lemmas.Option.{slice_get-get_or, slice_get_within, get_or_from_slice_get}
use Rattle.request_log.specs.Folded.{as_entry, whole}
use Rattle.request_log.specs.declared.entry.Entry.{Entry}
use Rattle.request_log.specs.declared.folded.Folded.{Folded}
use Rattle.lang_core.specs.declared.trace.CallMade.{CallMade}
use Rattle.service_events.specs.Fits.{calls_of_entry, calls_of_flight, count, places, times_held, wanted_call, FitsPlaces, NumberedCalls}
use Rattle.service_events.specs.Posts.{next_of, previous_of}
use Rattle.service_events.specs.State.{Kept}
use Rattle.service_posts.specs.Walks.{calls_by, calls_in, IsSlot}
use Rattle.service_posts.specs.declared.outward.Slot.{Slot}
use Rattle.service_posts.proofs.WalkLemmas.{after_here, after_later, before_here, before_later, calls_whole}

-- ---- the first and the last of a list

or_or : (o p q : Option ℕ) → option_or (option_or o p) q ≡ option_or o (option_or p q)
or_or None p q = refl
or_or (Some n) p q = refl

or_none : (o p : Option ℕ) → is_some o ≡ false → option_or o p ≡ p
or_none None p h = refl
or_none (Some n) p h = cc

or_some : (o p : Option ℕ) → is_some o ≡ true → option_or o p ≡ o
or_some None p h = cc
or_some (Some n) p h = refl

last_is : (o : Option ℕ) (ns : List ℕ) → last_or o ns ≡ option_or (last_or None ns) o
last_is o [] = refl
last_is o (n ∷ ns) =
    last_is (Some n) ns
    ∙ sym (or_or (last_or None ns) (Some n) o)
    ∙ ap (λ p. option_or p o) (sym (last_is (Some n) ns))

last_append : (o : Option ℕ) (ms ns : List ℕ) → last_or o (ms ++ ns) ≡ last_or (last_or o ms) ns
last_append o [] ns = refl
last_append o (m ∷ ms) ns = last_append (Some m) ms ns

none_in_both : (b : Bool) (k : ℕ) → cond b 1 0 + k ≡ 0 → (b ≡ false) × (k ≡ 0)
none_in_both true k h = absurd (omega (arith, h))
none_in_both false k h = (refl, omega (arith, h))

same : (n : ℕ) → nat_eq n n ≡ true
same n = grind (arith, nat_tests)

module _ (g : ℕ → Bool) where
  abbrev first : List ℕ → Option ℕ
  first ns = find g ns

  abbrev last : List ℕ → Option ℕ
  last ns = last_or None (filter g ns)

  pub last_by_fold : (o : Option ℕ) (ns : List ℕ) → fold (λ o n. cond (g n) (Some n) o) o ns ≡ last_or o (filter g ns)
  last_by_fold o [] = refl
  last_by_fold o (n ∷ ns) = elim (cases_Bool (g n)) [
    | inl is ↦ rw is (last_by_fold (Some n) ns)
    | inr other ↦ rw other (last_by_fold o ns)
  ]

  first_of_filter : (ns : List ℕ) → slice_get (filter g ns) 0 ≡ first ns
  first_of_filter [] = refl
  first_of_filter (n ∷ ns) = elim (cases_Bool (g n)) [
    | inl is ↦ rw is refl
    | inr other ↦ rw other (first_of_filter ns)
  ]

  pub first_of_both : (ms ns : List ℕ) → first (ms ++ ns) ≡ option_or (first ms) (first ns)
  first_of_both ms ns = find-append g ms ns

  pub last_of_both : (ms ns : List ℕ) → last (ms ++ ns) ≡ option_or (last ns) (last ms)
  last_of_both ms ns =
      ap (last_or None) (filter-append g ms ns) ∙ last_append None (filter g ms) (filter g ns) ∙ last_is (last ms) (filter g ns)

  -- ---- entry by entry

  pub first_step : (es : List Entry) (at : ℕ) (d : Entry) → at < length es
      → first (calls_in (drop at es)) ≡ option_or (first (get_or es at d).slots) (first (calls_in (drop (at + 1) es)))
  first_step es at d lt =
      ap (λ l. first (calls_in l)) (drop_more es at d lt)
      ∙ ap first (flat_map-cons (λ (e : Entry). e.slots) (get_or es at d) (drop (at + 1) es))
      ∙ first_of_both (get_or es at d).slots (calls_in (drop (at + 1) es))

  module _ (es : List Entry) (at : ℕ) (e : Entry) (lt : at < length es) (is : e ≡ get_or es at e) (found : Option ℕ) where
    abbrev onward : Option ℕ
    onward = first (calls_in (drop (at + 1) es))

    first_there : found ≡ first e.slots → first (calls_in (drop at es)) ≡ option_or found onward
    first_there of =
        first_step es at e lt ∙ ap (λ (x : Entry). option_or (first x.slots) onward) (sym is) ∙ ap (λ o. option_or o onward) (sym of)

    pub first_passes : found ≡ first e.slots → is_some found ≡ false → first (calls_in (drop at es)) ≡ onward
    first_passes of missing = first_there of ∙ or_none found onward missing

    pub first_stops : found ≡ first e.slots → is_some found ≡ true → first (calls_in (drop at es)) ≡ found
    first_stops of there = first_there of ∙ or_some found onward there

  -- of entries with these calls each
  module _ {X : Type 0} (slots : X → List ℕ) where
    last_step : (xs : List X) (at : ℕ) (d : X) → at < length xs
        → last (calls_by slots (take (at + 1) xs)) ≡ option_or (last (slots (get_or xs at d))) (last (calls_by slots (take at xs)))
    last_step xs at d lt =
        let x = get_or xs at d in
        ap (λ l. last (calls_by slots l)) (take_more xs at d lt)
        ∙ ap last (flat_map-append slots (take at xs) (x ∷ []) ∙ ap (λ l. calls_by slots (take at xs) ++ l) (flat_map-cons slots x [] ∙ append-nil (slots x)))
        ∙ last_of_both (calls_by slots (take at xs)) (slots x)

    module _ (xs : List X) (at : ℕ) (x : X) (lt : at < length xs) (is : x ≡ get_or xs at x) (found : Option ℕ) where
      abbrev back : Option ℕ
      back = last (calls_by slots (take at xs))

      last_there : found ≡ last (slots x) → last (calls_by slots (take (at + 1) xs)) ≡ option_or found back
      last_there of = last_step xs at x lt ∙ ap (λ y. option_or (last (slots y)) back) (sym is) ∙ ap (λ o. option_or o back) (sym of)

      pub last_passes : found ≡ last (slots x) → is_some found ≡ false → last (calls_by slots (take (at + 1) xs)) ≡ back
      last_passes of missing = last_there of ∙ or_none found back missing

      pub last_stops : found ≡ last (slots x) → is_some found ≡ true → last (calls_by slots (take (at + 1) xs)) ≡ found
      last_stops of there = last_there of ∙ or_some found back there

  -- the folded ones stand before
  module _ (fs : List Folded) (es : List Entry) (found : Option ℕ) (of : found ≡ last (calls_in es)) where
    abbrev past : Option ℕ
    past = last (calls_by (λ (f : Folded). f.slots) fs)

    last_whole : last (calls_in (whole fs es)) ≡ option_or found past
    last_whole =
        ap last (calls_whole fs es) ∙ last_of_both (calls_by (λ (f : Folded). f.slots) fs) (calls_in es) ∙ ap (λ o. option_or o past) (sym of)

    pub last_far : is_some found ≡ false → last (calls_in (whole fs es)) ≡ past
    last_far missing = last_whole ∙ or_none found past missing

    pub last_near : is_some found ≡ true → last (calls_in (whole fs es)) ≡ found
    last_near there = last_whole ∙ or_some found past there

  -- ---- past the call itself

  before_it : (o : Option ℕ) (n : ℕ) (ms ns : List ℕ) → g n ≡ true → count n ms ≡ 0
      → last_or o (before_first (λ m. nat_eq m n) (filter g (ms ++ n ∷ ns))) ≡ last_or o (filter g ms)
  before_it o n [] ns is none = rw is (ap (last_or o) (before_here (λ m. nat_eq m n) n (filter g ns) (same n)))
  before_it o n (m ∷ ms) ns is none =
      let both = none_in_both (nat_eq m n) (count n ms) none in
      elim (cases_Bool (g m)) [
        | inl here ↦ rw here (ap (last_or o) (before_later (λ m. nat_eq m n) m (filter g (ms ++ n ∷ ns)) both.0) ∙ before_it (Some m) n ms ns is both.1)
        | inr other ↦ rw other (before_it o n ms ns is both.1)
      ]

  behind_it : (n : ℕ) (ms ns : List ℕ) → g n ≡ true → count n ms ≡ 0 → slice_get (after_first (λ m. nat_eq m n) (filter g (ms ++ n ∷ ns))) 0 ≡ first ns
  behind_it n [] ns is none = rw is (ap (λ l. slice_get l 0) (after_here (λ m. nat_eq m n) n (filter g ns) (same n)) ∙ first_of_filter ns)
  behind_it n (m ∷ ms) ns is none =
      let both = none_in_both (nat_eq m n) (count n ms) none in
      elim (cases_Bool (g m)) [
        | inl here ↦ rw here (ap (λ l. slice_get l 0) (after_later (λ m. nat_eq m n) m (filter g (ms ++ n ∷ ns)) both.0) ∙ behind_it n ms ns is both.1)
        | inr other ↦ rw other (behind_it n ms ns is both.1)
      ]

-- ---- where it stands

count_both : (n : ℕ) (ms ns : List ℕ) → count n (ms ++ ns) ≡ count n ms + count n ns
count_both n [] ns = omega arith
count_both n (m ∷ ms) ns = let rest = count_both n ms ns in omega arith

parted : {X : Type 0} (xs : List X) (i : ℕ) (d : X) → i < length xs → xs ≡ take i xs ++ get_or xs i d ∷ drop (i + 1) xs
parted xs i d lt = sym (take-append-drop i xs) ∙ ap (λ l. take i xs ++ l) (drop_more xs i d lt)

number_at : (ns : List ℕ) (i n : ℕ) → slice_get ns i ≡ Some n → ns ≡ take i ns ++ n ∷ drop (i + 1) ns
number_at ns i n e =
    parted ns i n (slice_get_within ns i n e) ∙ ap (λ m. take i ns ++ m ∷ drop (i + 1) ns) (get_or_from_slice_get ns i n n e)

pub place_found : (ns : List ℕ) (number i : ℕ) → position (λ n. nat_eq n number) ns ≡ Some i → slice_get ns i ≡ Some number
place_found ns number i e =
    let found = position-Some (λ n. nat_eq n number) ns i 0 e in
    slice_get-get_or ns i 0 found.0 ∙ ap Some (eqb-true (get_or ns i 0) number found.1)

pub slot_found : (number : ℕ) (es : List Entry) (place : ℕ) (e : Entry) → slice_get es place ≡ Some e → (o : Option Slot)
    → IfSome o (λ (at : Slot). (at.entry ≡ place) × (slice_get e.slots at.call ≡ Some number)) → IfSome o (IsSlot number es)
slot_found number es place e found None h = tt
slot_found number es place e found (Some at) h =
    subst (λ o. IsSomeAnd o (λ (x : Entry). slice_get x.slots at.call ≡ Some number)) (sym (ap (slice_get es) h.0 ∙ found)) h.1

module _ (number : ℕ) (es : List Entry) (at : Slot) (slot : IsSlot number es at) where
  there_by : (o : Option Entry) → slice_get es at.entry ≡ o → IsSomeAnd o (λ (e : Entry). slice_get e.slots at.call ≡ Some number) → at.entry < length es
  there_by None e h = absurd h
  there_by (Some x) e h = slice_get_within es at.entry x e

  pub entry_within : at.entry < length es
  entry_within = there_by (slice_get es at.entry) refl slot

  module _ (entry : Entry) (is : entry ≡ get_or es at.entry entry) where
    pub call_there : slice_get entry.slots at.call ≡ Some number
    call_there =
        let found = slice_get-get_or es at.entry entry entry_within ∙ ap Some (sym is) in
        subst (λ o. IsSomeAnd o (λ (e : Entry). slice_get e.slots at.call ≡ Some number)) found slot

    pub call_within : at.call < length entry.slots
    call_within = slice_get_within entry.slots at.call number call_there

    abbrev ahead : List ℕ
    ahead = calls_in (take at.entry es) ++ take at.call entry.slots

    abbrev after : List ℕ
    after = drop (at.call + 1) entry.slots ++ calls_in (drop (at.entry + 1) es)

    around : calls_in es ≡ ahead ++ number ∷ after
    around =
        let slots : Entry → List ℕ = λ (e : Entry). e.slots in
        let front = calls_in (take at.entry es) in
        let rest = calls_in (drop (at.entry + 1) es) in
        ap calls_in (parted es at.entry entry entry_within)
        ∙ ap (λ e. calls_in (take at.entry es ++ e ∷ drop (at.entry + 1) es)) (sym is)
        ∙ flat_map-append slots (take at.entry es) (entry ∷ drop (at.entry + 1) es)
        ∙ ap (λ l. front ++ l) (flat_map-cons slots entry (drop (at.entry + 1) es))
        ∙ ap (λ l. front ++ (l ++ rest)) (number_at entry.slots at.call number call_there)
        ∙ ap (λ l. front ++ l) (append_assoc (take at.call entry.slots) (number ∷ drop (at.call + 1) entry.slots) rest)
        ∙ sym (append_assoc front (take at.call entry.slots) (number ∷ after))

    -- behind the folded ones
    module _ (fs : List Folded) where
      abbrev past_calls : List ℕ
      past_calls = calls_in (map as_entry fs)

      abbrev all_ahead : List ℕ
      all_ahead = calls_in (whole fs (take at.entry es)) ++ take at.call entry.slots

      -- the folded ones come first
      past_first : (ds : List Entry) → calls_in (whole fs ds) ≡ past_calls ++ calls_in ds
      past_first ds = flat_map-append (λ (e : Entry). e.slots) (map as_entry fs) ds

      all_ahead_is : past_calls ++ ahead ≡ all_ahead
      all_ahead_is =
          sym (append_assoc past_calls (calls_in (take at.entry es)) (take at.call entry.slots)) ∙ ap (λ l. l ++ take at.call entry.slots) (sym (past_first (take at.entry es)))

      all_around : calls_in (whole fs es) ≡ all_ahead ++ number ∷ after
      all_around =
          past_first es
          ∙ ap (λ l. past_calls ++ l) around
          ∙ sym (append_assoc past_calls ahead (number ∷ after))
          ∙ ap (λ l. l ++ number ∷ after) all_ahead_is

      none_ahead : count number (calls_in (whole fs es)) ≤ 1 → count number all_ahead ≡ 0
      none_ahead once =
          let all = ap (count number) all_around ∙ count_both number all_ahead (number ∷ after) in
          let one : count number (number ∷ after) ≡ 1 + count number after = ap (λ b. cond b 1 0 + count number after) (same number) in
          omega arith

      module _ (g : ℕ → Bool) (wanted : g number ≡ true) (once : count number (calls_in (whole fs es)) ≤ 1) where
        pub next_found : first g after ≡ next_of number (filter g (calls_in (whole fs es)))
        next_found = sym (ap (λ l. next_of number (filter g l)) all_around ∙ behind_it g number all_ahead after wanted (none_ahead once))

        pub previous_found : last g all_ahead ≡ previous_of number (filter g (calls_in (whole fs es)))
        previous_found = sym (ap (λ l. previous_of number (filter g l)) all_around ∙ before_it g None number all_ahead after wanted (none_ahead once))

-- ---- how often it stands

held_in_entries : (n : ℕ) (es : List Entry) (others : List NumberedCalls) → count n (calls_in es) ≤ times_held n (map calls_of_entry es ++ others)
held_in_entries n [] others = omega arith
held_in_entries n (e ∷ es) others =
    let rest = held_in_entries n es others in
    let one = ap (count n) (flat_map-cons (λ (e : Entry). e.slots) e es) ∙ count_both n e.slots (calls_in es) in
    omega arith

at_most_one : (o : Option CallMade) → option_map_or (λ c. 1) o 0 ≤ 1
at_most_one None = omega arith
at_most_one (Some c) = omega arith

pub stands_once : (s : Kept) (n : ℕ) → FitsPlaces s.registers (places s) → count n (calls_in s.entries) ≤ 1
stands_once s n fits =
    let held = held_in_entries n s.entries (map calls_of_flight s.flights) in
    let once = fits.once n in
    let most = at_most_one (wanted_call s.registers n) in
    omega arith
