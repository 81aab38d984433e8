-- Places of calls: in another order, parted, joined, and after a change of one register.
use Rattle.std.proofs.Common.{◌≡◌, ℕ, zero, suc, ◌+◌, Bool, true, false, cond, List, [], ◌∷◌, ◌++◌, Option, Some, None, map, take, drop, length, nat_eq, option_map, refl, sym, ap, ◌∙◌, subst, inl, inr, arith, take-append-drop, eqb-true, eq-eqb}
use Rattle.std.proofs.lemmas.Bool.{cases_Bool}
use Rattle.std.proofs.lemmas.List.{map-append}
use Rattle.std.specs.Option.{option_map_or}
use Rattle.lang_core.specs.declared.trace.CallMade.{CallMade}
use Rattle.call_registers.specs.Registers.{register, at_number}
use Rattle.call_registers.specs.declared.register.Register.{Register}
use Rattle.service_events.specs.Fits.{NumberedCalls, call_in, wanted_call, count, times_held, WantsItsCalls, FitsPlaces}
use Rattle.service_events.proofs.CallRowLemmas.{Each, each_append, each_front, each_behind, each_of_all, all_of_each}
use Rattle.service_events.proofs.RegisterLemmas.{flip_false, find-change}

abbrev pub one_if : Option CallMade → ℕ
one_if o = option_map_or (λ (c : CallMade). 1) o 0

abbrev pub place : List ℕ → List CallMade → NumberedCalls
place ns cs = record { numbers = ns; calls = cs }

abbrev pub no_place : NumberedCalls
no_place = place [] []

pub head_of : {X : Type 0} (x y : X) (xs ys : List X) → x ∷ xs ≡ y ∷ ys → x ≡ y
head_of x y xs ys e = cc

pub tail_of : {X : Type 0} (x y : X) (xs ys : List X) → x ∷ xs ≡ y ∷ ys → xs ≡ ys
tail_of x y xs ys e = cc

-- ---- counts

pub count-append : (n : ℕ) (xs ys : List ℕ) → count n (xs ++ ys) ≡ count n xs + count n ys
count-append n [] ys = omega arith
count-append n (x ∷ xs) ys = omega (arith, count-append n xs ys)

pub times_held-append : (n : ℕ) (xs ys : List NumberedCalls) → times_held n (xs ++ ys) ≡ times_held n xs + times_held n ys
times_held-append n [] ys = omega arith
times_held-append n (x ∷ xs) ys = omega (arith, times_held-append n xs ys)

-- a number that isn't counted is none of these
pub not_counted : (n : ℕ) (ms : List ℕ) → count n ms ≡ 0 → Each (λ k. nat_eq k n ≡ false) ms
not_counted n [] h = tt
not_counted n (m ∷ ms) h = elim (cases_Bool (nat_eq m n)) [
  | inl is ↦ absurd (let more : count n (m ∷ ms) ≡ 1 + count n ms = rw is refl in omega (arith, more, h))
  | inr differs ↦ (let more : count n (m ∷ ms) ≡ 0 + count n ms = rw differs refl in (differs, not_counted n ms (omega (arith, more, h))))
]

pub count_self : (n : ℕ) → count n (n ∷ []) ≡ 1
count_self n = (let is = eq-eqb n n refl in rw is refl)

pub count_other : (n m : ℕ) → nat_eq n m ≡ false → count m (n ∷ []) ≡ 0
count_other n m differs = rw differs refl

-- ---- the same places in another order

pub record Rearranged (xs ys : List NumberedCalls) : Type 1 where
  pub stood : (n : ℕ) → times_held n xs ≡ times_held n ys
  pub each : (P : NumberedCalls → Type 0) → Each P xs → Each P ys

pub rearrange : (now : List Register) (xs ys : List NumberedCalls) → Rearranged xs ys → FitsPlaces now xs → FitsPlaces now ys
rearrange now xs ys r f = record {
  calls = all_of_each (WantsItsCalls now) ys (r.each (WantsItsCalls now) (each_of_all (WantsItsCalls now) xs f.calls));
  once = λ n. sym (r.stood n) ∙ f.once n;
}

pub swapped : (p q : NumberedCalls) (ps : List NumberedCalls) → Rearranged (p ∷ (q ∷ ps)) (q ∷ (p ∷ ps))
swapped p q ps = record { stood = λ n. omega arith; each = λ P h. (h.1.0, (h.0, h.1.1)) }

-- a place from the midst to the head
pub drawn : (xs : List NumberedCalls) (p : NumberedCalls) (ys : List NumberedCalls) → Rearranged (xs ++ p ∷ ys) (p ∷ (xs ++ ys))
drawn xs p ys = record {
  stood = λ n. (let a = times_held-append n xs (p ∷ ys) in let b = times_held-append n xs ys in omega (arith, a, b));
  each = λ P h. (let back = each_behind P xs (p ∷ ys) h in (back.0, each_append P xs ys (each_front P xs (p ∷ ys) h) back.1));
}

-- and back
pub laid : (xs : List NumberedCalls) (p : NumberedCalls) (ys : List NumberedCalls) → Rearranged (p ∷ (xs ++ ys)) (xs ++ p ∷ ys)
laid xs p ys = record {
  stood = λ n. (let a = times_held-append n xs (p ∷ ys) in let b = times_held-append n xs ys in omega (arith, a, b));
  each = λ P h. each_append P xs (p ∷ ys) (each_front P xs ys h.1) (h.0, each_behind P xs ys h.1);
}

-- ---- a place without calls

pub with_none : (now : List Register) (ps : List NumberedCalls) → FitsPlaces now ps → FitsPlaces now (no_place ∷ ps)
with_none now ps f = record {
  calls = all_of_each (WantsItsCalls now) (no_place ∷ ps) (refl, each_of_all (WantsItsCalls now) ps f.calls);
  once = λ n. (let old = f.once n in omega (arith, old));
}

pub without_none : (now : List Register) (ps : List NumberedCalls) → FitsPlaces now (no_place ∷ ps) → FitsPlaces now ps
without_none now ps f = record {
  calls = all_of_each (WantsItsCalls now) ps (each_of_all (WantsItsCalls now) (no_place ∷ ps) f.calls).1;
  once = λ n. (let old = f.once n in omega (arith, old));
}

-- ---- a place parted and joined

wants_parts : (w : ℕ → Option CallMade) (xs ys : List ℕ) (cs ds : List CallMade) → length xs ≡ length cs → map w (xs ++ ys) ≡ map Some (cs ++ ds)
    → (map w xs ≡ map Some cs) × (map w ys ≡ map Some ds)
wants_parts w [] ys [] ds l e = (refl, e)
wants_parts w [] ys (c ∷ cs) ds l e = absurd (omega (arith, l))
wants_parts w (x ∷ xs) ys [] ds l e = absurd (omega (arith, l))
wants_parts w (x ∷ xs) ys (c ∷ cs) ds l e =
    let head = head_of (w x) (Some c) (map w (xs ++ ys)) (map Some (cs ++ ds)) e in
    let rest = wants_parts w xs ys cs ds (omega (arith, l)) (tail_of (w x) (Some c) (map w (xs ++ ys)) (map Some (cs ++ ds)) e) in
    (λ i. head i ∷ rest.0 i, rest.1)

pub parted : (now : List Register) (xs ys : List ℕ) (cs ds : List CallMade) (ps : List NumberedCalls) → length xs ≡ length cs
    → FitsPlaces now (place (xs ++ ys) (cs ++ ds) ∷ ps) → FitsPlaces now (place xs cs ∷ (place ys ds ∷ ps))
parted now xs ys cs ds ps l f =
    let each = each_of_all (WantsItsCalls now) (place (xs ++ ys) (cs ++ ds) ∷ ps) f.calls in
    let parts = wants_parts (wanted_call now) xs ys cs ds l each.0 in
    record {
      calls = all_of_each (WantsItsCalls now) (place xs cs ∷ (place ys ds ∷ ps)) (parts.0, (parts.1, each.1));
      once = λ n. (let old = f.once n in let sum = count-append n xs ys in omega (arith, old, sum));
    }

pub joined : (now : List Register) (xs ys : List ℕ) (cs ds : List CallMade) (ps : List NumberedCalls)
    → FitsPlaces now (place xs cs ∷ (place ys ds ∷ ps)) → FitsPlaces now (place (xs ++ ys) (cs ++ ds) ∷ ps)
joined now xs ys cs ds ps f =
    let each = each_of_all (WantsItsCalls now) (place xs cs ∷ (place ys ds ∷ ps)) f.calls in
    record {
      calls = all_of_each (WantsItsCalls now) (place (xs ++ ys) (cs ++ ds) ∷ ps)
          (map-append (wanted_call now) xs ys ∙ ap (λ zs. zs ++ map (wanted_call now) ys) each.0 ∙ ap (λ zs. map Some cs ++ zs) each.1.0 ∙ sym (map-append Some cs ds), each.1.1);
      once = λ n. (let old = f.once n in let sum = count-append n xs ys in omega (arith, old, sum));
    }

pub lengths : (now : List Register) (xs : List ℕ) (cs : List CallMade) → map (wanted_call now) xs ≡ map Some cs → length xs ≡ length cs
lengths now [] [] e = refl
lengths now [] (c ∷ cs) e = cc
lengths now (x ∷ xs) [] e = cc
lengths now (x ∷ xs) (c ∷ cs) e = ap suc (lengths now xs cs (tail_of (wanted_call now x) (Some c) (map (wanted_call now) xs) (map Some cs) e))

wants_taken : (w : ℕ → Option CallMade) (k : ℕ) (xs : List ℕ) (cs : List CallMade) → map w xs ≡ map Some cs
    → (map w (take k xs) ≡ map Some (take k cs)) × (map w (drop k xs) ≡ map Some (drop k cs))
wants_taken w zero xs cs e = (refl, e)
wants_taken w (suc k) [] [] e = (refl, refl)
wants_taken w (suc k) [] (c ∷ cs) e = cc
wants_taken w (suc k) (x ∷ xs) [] e = cc
wants_taken w (suc k) (x ∷ xs) (c ∷ cs) e =
    let head = head_of (w x) (Some c) (map w xs) (map Some cs) e in
    let rest = wants_taken w k xs cs (tail_of (w x) (Some c) (map w xs) (map Some cs) e) in
    (λ i. head i ∷ rest.0 i, rest.1)

-- the first calls of a place, and the others
pub parted_at : (now : List Register) (k : ℕ) (xs : List ℕ) (cs : List CallMade) (ps : List NumberedCalls) → FitsPlaces now (place xs cs ∷ ps)
    → FitsPlaces now (place (take k xs) (take k cs) ∷ (place (drop k xs) (drop k cs) ∷ ps))
parted_at now k xs cs ps f =
    let each = each_of_all (WantsItsCalls now) (place xs cs ∷ ps) f.calls in
    let parts = wants_taken (wanted_call now) k xs cs each.0 in
    record {
      calls = all_of_each (WantsItsCalls now) (place (take k xs) (take k cs) ∷ (place (drop k xs) (drop k cs) ∷ ps)) (parts.0, (parts.1, each.1));
      once = λ n. (let old = f.once n in let sum = count-append n (take k xs) (drop k xs) in
          let whole = ap (count n) (take-append-drop k xs) in omega (arith, old, sum, whole));
    }

-- ---- one register changes

keep_numbers : (now end : List Register) (n : ℕ) → ((m : ℕ) → nat_eq n m ≡ false → register m end ≡ register m now)
    → (ms : List ℕ) → Each (λ k. nat_eq k n ≡ false) ms → map (wanted_call end) ms ≡ map (wanted_call now) ms
keep_numbers now end n same [] h = refl
keep_numbers now end n same (m ∷ ms) h =
    let head = ap call_in (same m (flip_false m n h.0)) in let rest = keep_numbers now end n same ms h.1 in (λ i. head i ∷ rest i)

keep_places : (now end : List Register) (n : ℕ) → ((m : ℕ) → nat_eq n m ≡ false → register m end ≡ register m now)
    → (ps : List NumberedCalls) → times_held n ps ≡ 0 → Each (WantsItsCalls now) ps → Each (WantsItsCalls end) ps
keep_places now end n same [] none h = tt
keep_places now end n same (p ∷ ps) none h =
    (keep_numbers now end n same p.numbers (not_counted n p.numbers (omega (arith, none))) ∙ h.0, keep_places now end n same ps (omega (arith, none)) h.1)

-- the place of that number becomes another one, and all other places stay
pub step_places : (now end : List Register) (n : ℕ) (p q : NumberedCalls) (ps : List NumberedCalls)
    → ((m : ℕ) → nat_eq n m ≡ false → register m end ≡ register m now)
    → ((m : ℕ) → nat_eq n m ≡ false → (count m p.numbers ≡ 0) × (count m q.numbers ≡ 0))
    → times_held n ps ≡ 0 → count n q.numbers ≡ one_if (wanted_call end n) → WantsItsCalls end q
    → FitsPlaces now (p ∷ ps) → FitsPlaces end (q ∷ ps)
step_places now end n p q ps same away none here wants f =
    let each = each_of_all (WantsItsCalls now) (p ∷ ps) f.calls in
    record {
      calls = all_of_each (WantsItsCalls end) (q ∷ ps) (wants, keep_places now end n same ps none each.1);
      once = λ m. elim (cases_Bool (nat_eq n m)) [
        | inl is ↦ (let Q : ℕ → Type 0 = λ k. count k q.numbers + times_held k ps ≡ one_if (wanted_call end k) in
            subst Q (eqb-true n m is) (omega (arith, none, here)))
        | inr differs ↦ (let a = away m differs in let old = f.once m in
            let w : one_if (wanted_call end m) ≡ one_if (wanted_call now m) = ap (λ o. one_if (call_in o)) (same m differs) in
            omega (arith, a.0, a.1, old, w))
      ];
    }

-- ---- registers that want the same calls

pub same_places : (now end : List Register) (ps : List NumberedCalls) → ((m : ℕ) → wanted_call end m ≡ wanted_call now m) → FitsPlaces now ps → FitsPlaces end ps
same_places now end ps same f = record {
  calls = all_of_each (WantsItsCalls end) ps (all_same ps (each_of_all (WantsItsCalls now) ps f.calls));
  once = λ n. f.once n ∙ sym (ap one_if (same n));
}
  where
    maps : (ms : List ℕ) → map (wanted_call end) ms ≡ map (wanted_call now) ms
    maps [] = refl
    maps (m ∷ ms) = let head = same m in let rest = maps ms in (λ i. head i ∷ rest i)

    all_same : (ps : List NumberedCalls) → Each (WantsItsCalls now) ps → Each (WantsItsCalls end) ps
    all_same [] h = tt
    all_same (p ∷ ps) h = (maps p.numbers ∙ h.0, all_same ps h.1)

aside_wants : (b : Bool) (f : Register → Register) (o : Option Register) → ((r : Register) → call_in (Some (f r)) ≡ call_in (Some r))
    → call_in (cond b (option_map f o) o) ≡ call_in o
aside_wants true f None same = refl
aside_wants true f (Some r) same = same r
aside_wants false f o same = refl

pub places_aside : (now : List Register) (n : ℕ) (f : Register → Register) (ps : List NumberedCalls) → ((r : Register) → (f r).number ≡ r.number)
    → ((r : Register) → call_in (Some (f r)) ≡ call_in (Some r)) → FitsPlaces now ps → FitsPlaces (at_number n f now) ps
places_aside now n f ps number same h =
    same_places now (at_number n f now) ps (λ m. ap call_in (find-change n m f number now) ∙ aside_wants (nat_eq n m) f (register m now) same) h
