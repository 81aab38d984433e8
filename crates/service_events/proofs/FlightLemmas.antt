-- Flights in the order of their numbers: one put among them or taken out, and their origins.
use Rattle.std.proofs.Common.{◌≡◌, ℕ, zero, suc, ◌+◌, ◌<◌, ◌≤◌, Bool, true, false, ◌&&◌, List, [], ◌∷◌, ◌++◌, Option, Some, None, AllPairs, find, map, nat_eq, nat_lt, refl, sym, ap, ◌∙◌, subst, inl, inr, arith, eqb-true, eq-eqb, ne_eqb, lt-ltb, le-ltb, ltb-true, ltb-false}
use Rattle.std.proofs.lemmas.Bool.{cases_Bool, or_parts}
use Rattle.std.proofs.lemmas.List.Kept.{AllPairs-cons}
use Rattle.std.specs.Cmp.{nat_eq_equiv}
use Rattle.std.specs.Cmp.Lexicographic.{nat_list_eq_equiv}
use Rattle.std.specs.List.{list_any}
use Rattle.lang_base.specs.Texts.{same_text}
use Rattle.lang_core.specs.declared.ids.Origin.{Origin}
use Rattle.lang_core.specs.declared.ids.Origin.TheVariants.{Outside, Call}
use Rattle.journal_rows.specs.Words.{taken_step, last_taken_of, comes_from}
use Rattle.journal_rows.specs.declared.callee.TookRow.{TookRow}
use Rattle.journal_rows.specs.declared.row.Row.{Row}
use Rattle.journal_rows.specs.declared.row.Row.TheVariants.{Took}
use Rattle.flights.specs.declared.flight.Flight.{Flight}
use Rattle.service_events.specs.State.{has_flight, same_call_origin, without_flight, put_flight, with_flight, free_from}
use Rattle.service_events.specs.Fits.{AreOther, FitsFlights}
use Rattle.service_events.proofs.CallRowLemmas.{Each, each_append, each_front, each_behind, each_weaker, each_put, each_mid, each_drop, each_of_all, all_of_each, word_same, IsUntaken}
use Rattle.service_events.proofs.RegisterLemmas.{some_is}

-- ---- each two are apart

abbrev pub AllOther : List Flight → Type 0
AllOther [] = Unit {0}
AllOther (f ∷ fs) = Each (AreOther f) fs × AllOther fs

pub others_from : (fs : List Flight) → AllPairs AreOther fs → AllOther fs
others_from [] h = tt
others_from (f ∷ fs) h = (
  each_of_all (AreOther f) fs (λ k d w. h zero (suc k) d (omega arith) (omega (arith, w))),
  others_from fs (λ i j d l w. h (suc i) (suc j) d (omega (arith, l)) (omega (arith, w))),
)

pub pairs_from : (fs : List Flight) → AllOther fs → AllPairs AreOther fs
pairs_from [] h = λ i j d l w. absurd (omega (arith, w))
pairs_from (f ∷ fs) h = AllPairs-cons AreOther f fs (all_of_each (AreOther f) fs h.0) (pairs_from fs h.1)

pub record Flies (journal : List Row) (fs : List Flight) : Type 0 where
  pub numbered : Each (λ (f : Flight). 1 ≤ f.id) fs
  pub others : AllOther fs
  pub untaken : Each (λ (f : Flight). last_taken_of f.origin journal ≡ None) fs

pub flies_from : (journal : List Row) (fs : List Flight) → FitsFlights journal fs → Flies journal fs
flies_from journal fs h = record {
  numbered = each_of_all (λ (f : Flight). 1 ≤ f.id) fs h.numbered;
  others = others_from fs h.others;
  untaken = each_of_all (λ (f : Flight). last_taken_of f.origin journal ≡ None) fs h.untaken;
}

pub flies_fit : (journal : List Row) (fs : List Flight) → Flies journal fs → FitsFlights journal fs
flies_fit journal fs h = record {
  numbered = all_of_each (λ (f : Flight). 1 ≤ f.id) fs h.numbered;
  others = pairs_from fs h.others;
  untaken = all_of_each (λ (f : Flight). last_taken_of f.origin journal ≡ None) fs h.untaken;
}

-- ---- one origin

pub same_flips : (a b : Origin) → same_call_origin a b ≡ same_call_origin b a
same_flips Outside Outside = refl
same_flips Outside (Call c n) = refl
same_flips (Call c n) Outside = refl
same_flips (Call c n) (Call d m) =
    ap (λ b. b && nat_eq m n) (nat_list_eq_equiv.symm d c) ∙ ap (λ b. same_text c d && b) (nat_eq_equiv.symm m n)

-- a row that takes no version of this origin
abbrev pub LeavesOrigin : Origin → Row → Type 0
LeavesOrigin o (Took t) = comes_from o t ≡ false
LeavesOrigin o row = Unit {0}

pub untaken_leaves : (o : Origin) (row : Row) → IsUntaken row → LeavesOrigin o row
untaken_leaves o (Took t) h = absurd h
untaken_leaves o row h = tt

leaves_step : (c : List ℕ) (n : ℕ) (last : Option TookRow) (row : Row) → LeavesOrigin (Call c n) row → taken_step c n last row ≡ last
leaves_step c n last (Took t) h = rw h refl
leaves_step c n last row h = refl

pub taken_same : (o : Origin) (journal rows : List Row) → Each (LeavesOrigin o) rows → last_taken_of o (journal ++ rows) ≡ last_taken_of o journal
taken_same Outside journal rows h = refl
taken_same (Call c n) journal rows h = word_same (LeavesOrigin (Call c n)) (taken_step c n) (λ last row l. leaves_step c n last row l) None journal rows h

-- rows that take no version leave flights
pub flies_rows : (journal rows : List Row) (fs : List Flight) → Each IsUntaken rows → Flies journal fs → Flies (journal ++ rows) fs
flies_rows journal rows fs quiet h = record {
  numbered = h.numbered;
  others = h.others;
  untaken = each_weaker (λ (f : Flight). last_taken_of f.origin journal ≡ None) (λ (f : Flight). last_taken_of f.origin (journal ++ rows) ≡ None)
      (λ f none. taken_same f.origin journal rows (each_weaker IsUntaken (LeavesOrigin f.origin) (untaken_leaves f.origin) rows quiet) ∙ none) fs h.untaken;
}

-- rows that take versions of none of their origins leave them
pub flies_took : (journal rows : List Row) (fs : List Flight) → Each (λ (f : Flight). Each (LeavesOrigin f.origin) rows) fs → Flies journal fs → Flies (journal ++ rows) fs
flies_took journal rows fs apart h = record { numbered = h.numbered; others = h.others; untaken = all_free fs apart h.untaken }
  where
    all_free : (gs : List Flight) → Each (λ (f : Flight). Each (LeavesOrigin f.origin) rows) gs → Each (λ (f : Flight). last_taken_of f.origin journal ≡ None) gs
        → Each (λ (f : Flight). last_taken_of f.origin (journal ++ rows) ≡ None) gs
    all_free [] a u = tt
    all_free (g ∷ gs) a u = (taken_same g.origin journal rows a.0 ∙ u.0, all_free gs a.1 u.1)

-- ---- one of them by its place

pub others_drop : (xs : List Flight) (f : Flight) (ys : List Flight) → AllOther (xs ++ f ∷ ys) → AllOther (xs ++ ys)
others_drop [] f ys h = h.1
others_drop (x ∷ xs) f ys h = (each_drop (AreOther x) xs f ys h.0, others_drop xs f ys h.1)

-- with one of the same number and origin in its place
pub others_put : (xs : List Flight) (f g : Flight) (ys : List Flight) → g.id ≡ f.id → g.origin ≡ f.origin → AllOther (xs ++ f ∷ ys) → AllOther (xs ++ g ∷ ys)
others_put [] f g ys id origin h =
    (each_weaker (AreOther f) (AreOther g) (λ y o. (omega (arith, id, o.0), ap (λ k. same_call_origin k y.origin) origin ∙ o.1)) ys h.0, h.1)
others_put (x ∷ xs) f g ys id origin h =
    let this = each_mid (AreOther x) xs f ys h.0 in (
      each_put (AreOther x) xs f g ys h.0 (omega (arith, id, this.0), ap (λ k. same_call_origin x.origin k) origin ∙ this.1),
      others_put xs f g ys id origin h.1,
    )

pub others_add : (xs : List Flight) (f : Flight) (ys : List Flight) → Each (λ (x : Flight). AreOther x f) xs → Each (AreOther f) ys → AllOther (xs ++ ys)
    → AllOther (xs ++ f ∷ ys)
others_add [] f ys low high h = (high, h)
others_add (x ∷ xs) f ys low high h =
    (each_append (AreOther x) xs (f ∷ ys) (each_front (AreOther x) xs ys h.0) (low.0, each_behind (AreOther x) xs ys h.0), others_add xs f ys low.1 high h.1)

-- the others have other origins
pub others_of : (xs : List Flight) (f : Flight) (ys : List Flight) → AllOther (xs ++ f ∷ ys)
    → Each (λ (g : Flight). same_call_origin f.origin g.origin ≡ false) (xs ++ ys)
others_of [] f ys h = each_weaker (AreOther f) (λ (g : Flight). same_call_origin f.origin g.origin ≡ false) (λ g o. o.1) ys h.0
others_of (x ∷ xs) f ys h = (same_flips f.origin x.origin ∙ (each_mid (AreOther x) xs f ys h.0).1, others_of xs f ys h.1)

pub flies_drop : (journal : List Row) (xs : List Flight) (f : Flight) (ys : List Flight) → Flies journal (xs ++ f ∷ ys) → Flies journal (xs ++ ys)
flies_drop journal xs f ys h = record {
  numbered = each_drop (λ (f : Flight). 1 ≤ f.id) xs f ys h.numbered;
  others = others_drop xs f ys h.others;
  untaken = each_drop (λ (f : Flight). last_taken_of f.origin journal ≡ None) xs f ys h.untaken;
}

pub flies_put : (journal : List Row) (xs : List Flight) (f g : Flight) (ys : List Flight) → g.id ≡ f.id → g.origin ≡ f.origin → Flies journal (xs ++ f ∷ ys)
    → Flies journal (xs ++ g ∷ ys)
flies_put journal xs f g ys id origin h =
    let number = each_mid (λ (x : Flight). 1 ≤ x.id) xs f ys h.numbered in
    let free = each_mid (λ (x : Flight). last_taken_of x.origin journal ≡ None) xs f ys h.untaken in
    record {
      numbered = each_put (λ (x : Flight). 1 ≤ x.id) xs f g ys h.numbered (omega (arith, id, number));
      others = others_put xs f g ys id origin h.others;
      untaken = each_put (λ (x : Flight). last_taken_of x.origin journal ≡ None) xs f g ys h.untaken (ap (λ o. last_taken_of o journal) origin ∙ free);
    }

-- ---- each is another one of the same number and origin

each_mapped : (P Q : Flight → Type 0) (g : Flight → Flight) → ((f : Flight) → P f → Q (g f)) → (fs : List Flight) → Each P fs → Each Q (map g fs)
each_mapped P Q g keeps [] h = tt
each_mapped P Q g keeps (f ∷ fs) h = (keeps f h.0, each_mapped P Q g keeps fs h.1)

module _ (g : Flight → Flight) (id : (f : Flight) → (g f).id ≡ f.id) (origin : (f : Flight) → (g f).origin ≡ f.origin) where
  other_mapped : (f h : Flight) → AreOther f h → AreOther (g f) (g h)
  other_mapped f h o =
      let first = id f in
      let second = id h in
      let less = o.0 in
      (omega (arith, first, second, less), ap (λ k. same_call_origin k (g h).origin) (origin f) ∙ ap (λ k. same_call_origin f.origin k) (origin h) ∙ o.1)

  others_mapped : (fs : List Flight) → AllOther fs → AllOther (map g fs)
  others_mapped [] h = tt
  others_mapped (f ∷ fs) h = (each_mapped (AreOther f) (AreOther (g f)) g (other_mapped f) fs h.0, others_mapped fs h.1)

  pub flies_mapped : (journal : List Row) (fs : List Flight) → Flies journal fs → Flies journal (map g fs)
  flies_mapped journal fs h = record {
    numbered = each_mapped (λ (f : Flight). 1 ≤ f.id) (λ (f : Flight). 1 ≤ f.id) g (λ f one. (let same = id f in omega (arith, same, one))) fs h.numbered;
    others = others_mapped fs h.others;
    untaken = each_mapped (λ (f : Flight). last_taken_of f.origin journal ≡ None) (λ (f : Flight). last_taken_of f.origin journal ≡ None) g
        (λ f none. ap (λ o. last_taken_of o journal) (origin f) ∙ none) fs h.untaken;
  }

-- ---- where one is put

pub record PutAt (f : Flight) (gs : List Flight) : Type 0 where
  pub lows : List Flight
  pub highs : List Flight
  pub is : gs ≡ lows ++ highs
  pub put : (g : Flight) → g.id ≡ f.id → put_flight g gs ≡ lows ++ g ∷ highs
  pub below : Each (λ (g : Flight). g.id ≤ f.id) lows
  pub above : AllOther gs → Each (λ (g : Flight). f.id < g.id) highs

pub put_at : (f : Flight) (gs : List Flight) → PutAt f gs
put_at f [] = record { lows = []; highs = []; is = refl; put = λ g e. refl; below = tt; above = λ h. tt }
put_at f (h ∷ hs) = elim (cases_Bool (nat_lt f.id h.id)) [
  | inl is ↦ record {
    lows = [];
    highs = h ∷ hs;
    is = refl;
    put = λ g e. (let t : nat_lt g.id h.id ≡ true = ap (λ k. nat_lt k h.id) e ∙ is in rw t refl);
    below = tt;
    above = λ o. (let less = ltb-true f.id h.id is in
        (less, each_weaker (AreOther h) (λ (g : Flight). f.id < g.id) (λ g a. omega (arith, less, a.0)) hs o.0));
  }
  | inr isnt ↦ (let rest = put_at f hs in record {
    lows = h ∷ rest.lows;
    highs = rest.highs;
    is = ap (λ xs. h ∷ xs) rest.is;
    put = λ g e. (let t : nat_lt g.id h.id ≡ false = ap (λ k. nat_lt k h.id) e ∙ isnt in rw t (ap (λ xs. h ∷ xs) (rest.put g e)));
    below = (ltb-false f.id h.id isnt, rest.below);
    above = λ o. rest.above o.1;
  })
]

-- ---- one of a number that is there

pub without_none : (id : ℕ) (gs : List Flight) → Each (λ (g : Flight). nat_eq g.id id ≡ false) gs → without_flight id gs ≡ gs
without_none id [] h = refl
without_none id (g ∷ gs) h = (let other = h.0 in rw other (ap (λ xs. g ∷ xs) (without_none id gs h.1)))

put_least : (f : Flight) (gs : List Flight) → Each (λ (g : Flight). f.id < g.id) gs → put_flight f gs ≡ f ∷ gs
put_least f [] h = refl
put_least f (g ∷ gs) h = (let t = lt-ltb f.id g.id h.0 in rw t refl)

pub each_found : {X : Type 0} (P : X → Type 0) (p : X → Bool) (xs : List X) (x : X) → find p xs ≡ Some x → Each P xs → P x
each_found P p [] x e h = cc
each_found P p (y ∷ ys) x e h = elim (cases_Bool (p y)) [
  | inl is ↦ subst P (some_is y x (rw is at e)) h.0
  | inr differs ↦ each_found P p ys x (rw differs at e) h.1
]

found_here : (f : Flight) (gs : List Flight) → Each (AreOther f) gs → with_flight f (f ∷ gs) ≡ f ∷ gs
found_here f gs h =
    let is : nat_eq f.id f.id ≡ true = eq-eqb f.id f.id refl in
    let away = without_none f.id gs (each_weaker (AreOther f) (λ (g : Flight). nat_eq g.id f.id ≡ false) (λ g a. ne_eqb g.id f.id (λ e. omega (arith, e, a.0))) gs h) in
    let dropped : without_flight f.id (f ∷ gs) ≡ gs = rw is away in
    ap (put_flight f) dropped ∙ put_least f gs (each_weaker (AreOther f) (λ (g : Flight). f.id < g.id) (λ g a. a.0) gs h)

-- one that is there, put in its own place
pub with_known : (id : ℕ) (fs : List Flight) (f : Flight) → find (has_flight id) fs ≡ Some f → AllOther fs → with_flight f fs ≡ fs
with_known id [] f e h = cc
with_known id (g ∷ gs) f e h = elim (cases_Bool (nat_eq g.id id)) [
  | inl is ↦ (let P : Flight → Type 0 = λ x. with_flight x (g ∷ gs) ≡ g ∷ gs in subst P (some_is g f (rw is at e)) (found_here g gs h.0))
  | inr differs ↦ (let later : find (has_flight id) gs ≡ Some f = rw differs at e in
      let less = (each_found (AreOther g) (has_flight id) gs f later h.0).0 in
      let other : nat_eq g.id f.id ≡ false = ne_eqb g.id f.id (λ e. omega (arith, e, less)) in
      let not_before : nat_lt f.id g.id ≡ false = le-ltb f.id g.id (omega (arith, less)) in
      let dropped : without_flight f.id (g ∷ gs) ≡ g ∷ without_flight f.id gs = rw other refl in
      ap (put_flight f) dropped ∙ behind not_before ∙ ap (λ xs. g ∷ xs) (with_known id gs f later h.1))
]
  where
    behind : nat_lt f.id g.id ≡ false → put_flight f (g ∷ without_flight f.id gs) ≡ g ∷ put_flight f (without_flight f.id gs)
    behind n = rw n refl

pub found_id : (id : ℕ) (fs : List Flight) (f : Flight) → find (has_flight id) fs ≡ Some f → f.id ≡ id
found_id id [] f e = cc
found_id id (g ∷ gs) f e = elim (cases_Bool (nat_eq g.id id)) [
  | inl is ↦ ap (λ (x : Flight). x.id) (sym (some_is g f (rw is at e))) ∙ eqb-true g.id id is
  | inr differs ↦ found_id id gs f (rw differs at e)
]

-- ---- a number that none has

record IsFree (id : ℕ) (fs : List Flight) (free : ℕ) : Type 0 where
  pub least : id ≤ free
  pub none : Each (λ (g : Flight). nat_eq g.id free ≡ false) fs

free_is : (id : ℕ) (fs : List Flight) → AllOther fs → Each (λ (g : Flight). id ≤ g.id) fs → IsFree id fs (free_from id fs)
free_is id [] h above = record { least = omega arith; none = tt }
free_is id (f ∷ fs) h above = elim (cases_Bool (nat_eq f.id id)) [
  | inl is ↦ (let same = eqb-true f.id id is in
      let rest = free_is (id + 1) fs h.1 (each_weaker (AreOther f) (λ (g : Flight). id + 1 ≤ g.id) (λ g a. omega (arith, same, a.0)) fs h.0) in
      rw is (record { least = (let l = rest.least in omega (arith, l)); none = (ne_eqb f.id (free_from (id + 1) fs) (λ e. let l = rest.least in omega (arith, l, e, same)), rest.none) }))
  | inr differs ↦ (let more : id < f.id = above_of differs above.0 in
      rw differs (record { least = omega arith; none = (differs, each_weaker (AreOther f) (λ (g : Flight). nat_eq g.id id ≡ false) (λ g a. ne_eqb g.id id (λ e. omega (arith, more, e, a.0))) fs h.0) }))
]
  where
    above_of : nat_eq f.id id ≡ false → id ≤ f.id → id < f.id
    above_of d l = grind (arith, d, l)

pub free_number : (fs : List Flight) → AllOther fs → Each (λ (g : Flight). 1 ≤ g.id) fs
    → (1 ≤ free_from 1 fs) × Each (λ (g : Flight). nat_eq g.id (free_from 1 fs) ≡ false) fs
free_number fs h above = (let is = free_is 1 fs h above in (is.least, is.none))

-- ---- one more

pub any_none : (o : Origin) (fs : List Flight) → list_any (λ (f : Flight). same_call_origin o f.origin) fs ≡ false
    → Each (λ (g : Flight). same_call_origin o g.origin ≡ false) fs
any_none o [] h = tt
any_none o (f ∷ fs) h =
    (let parts = or_parts (same_call_origin o f.origin) (list_any (λ (f : Flight). same_call_origin o f.origin) fs) h in (parts.0, any_none o fs parts.1))

-- a flight of a number and an origin that no other has
pub flies_more : (journal : List Row) (fs : List Flight) (f : Flight) → 1 ≤ f.id → Each (λ (g : Flight). nat_eq g.id f.id ≡ false) fs
    → Each (λ (g : Flight). same_call_origin f.origin g.origin ≡ false) fs → last_taken_of f.origin journal ≡ None → Flies journal fs → Flies journal (with_flight f fs)
flies_more journal fs f one ids origins free h =
    let gs = without_flight f.id fs in
    let at = put_at f gs in
    let same : gs ≡ fs = without_none f.id fs ids in
    let split : fs ≡ at.lows ++ at.highs = sym same ∙ at.is in
    let A : List Flight → Type 0 = λ xs. AllOther xs in
    let N : List Flight → Type 0 = λ xs. Each (λ (g : Flight). nat_eq g.id f.id ≡ false) xs in
    let O : List Flight → Type 0 = λ xs. Each (λ (g : Flight). same_call_origin f.origin g.origin ≡ false) xs in
    let F : List Flight → Type 0 = λ xs. Flies journal xs in
    let old = subst F split h in
    let number = subst N split ids in
    let origin = subst O split origins in
    let high = at.above (subst A (sym same) h.others) in
    subst F (sym (at.put f refl)) (record {
      numbered = into (λ (g : Flight). 1 ≤ g.id) at.lows at.highs old.numbered one;
      others = others_add at.lows f at.highs
          (low_others at.lows at.below (each_front (λ (g : Flight). nat_eq g.id f.id ≡ false) at.lows at.highs number) (each_front (λ (g : Flight). same_call_origin f.origin g.origin ≡ false) at.lows at.highs origin))
          (high_others at.highs high (each_behind (λ (g : Flight). same_call_origin f.origin g.origin ≡ false) at.lows at.highs origin)) old.others;
      untaken = into (λ (g : Flight). last_taken_of g.origin journal ≡ None) at.lows at.highs old.untaken free;
    })
  where
    into : (P : Flight → Type 0) (xs ys : List Flight) → Each P (xs ++ ys) → P f → Each P (xs ++ f ∷ ys)
    into P xs ys h p = each_append P xs (f ∷ ys) (each_front P xs ys h) (p, each_behind P xs ys h)

    less_of : (a b : ℕ) → a ≤ b → nat_eq a b ≡ false → a < b
    less_of a b l d = grind (arith, d, l)

    low_others : (xs : List Flight) → Each (λ (g : Flight). g.id ≤ f.id) xs → Each (λ (g : Flight). nat_eq g.id f.id ≡ false) xs
        → Each (λ (g : Flight). same_call_origin f.origin g.origin ≡ false) xs → Each (λ (x : Flight). AreOther x f) xs
    low_others [] b n o = tt
    low_others (x ∷ xs) b n o = ((less_of x.id f.id b.0 n.0, same_flips x.origin f.origin ∙ o.0), low_others xs b.1 n.1 o.1)

    high_others : (xs : List Flight) → Each (λ (g : Flight). f.id < g.id) xs → Each (λ (g : Flight). same_call_origin f.origin g.origin ≡ false) xs
        → Each (AreOther f) xs
    high_others [] a o = tt
    high_others (x ∷ xs) a o = ((a.0, o.0), high_others xs a.1 o.1)
