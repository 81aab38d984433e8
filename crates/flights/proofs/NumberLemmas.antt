-- Flights in the order of their numbers, and the least number that is free.
use Rattle.std.proofs.Common.{◌≡◌, ◌∙◌, sym, ap, refl, subst, ℕ, suc, ◌+◌, ◌<◌, ◌≤◌, ◌≢◌, Bool, true, false, cond, List, [], ◌∷◌, length, get_or, drop, Option, Some, None, Result, Ok, Err, OnOk, OnErr, IsSome, nat_eq, nat_lt, arith, add-one, drop-cons}
use Rattle.std.proofs.lemmas.Bool.{cond-false, cond-true, eqb-true}
use Rattle.std.proofs.lemmas.Bool.Decides.{nat_tests}
use Rattle.lang_lists.specs.Numbers.{RisesFrom, put_item, with_item}
use Rattle.lang_lists.proofs.NumberLemmas.{none_below, none_removed as none_taken, rises_with}
use Rattle.flights.specs.Numbers.{flight_in, without_flight, put_flight, with_flight, IsRising, free_from, IsLeastFree}
use Rattle.flights.specs.declared.flight.Flight.{Flight}
use Rattle.lang_base.proofs.EqualLemmas.{nat_same}

abbrev id_of : Flight → ℕ
id_of f = f.id

-- ---- flights as items with numbers

put_as_item : (f : Flight) (fs : List Flight) → put_item id_of f fs ≡ put_flight f fs
put_as_item f [] = refl
put_as_item f (g ∷ gs) = ap (λ l. cond (nat_lt f.id g.id) (f ∷ g ∷ gs) (g ∷ l)) (put_as_item f gs)

pub with_as_item : (f : Flight) (fs : List Flight) → with_item id_of f fs ≡ with_flight f fs
with_as_item f fs = put_as_item f (without_flight f.id fs)

pub none_removed : (id : ℕ) (fs : List Flight) → flight_in id fs ≡ None → without_flight id fs ≡ fs
none_removed id fs e = none_taken id_of id fs e

-- numbers rise still, whether there was memory or not
pub rising_put : {A B : Type 0} (r : Result A B) (f : Flight) (old new : List Flight) → OnOk r (new ≡ with_item id_of f old) → OnErr r (new ≡ old) → 1 ≤ f.id → IsRising old → IsRising new
rising_put (Ok a) f old new ok err w h = let P : List Flight → Type 0 = λ l. IsRising l in subst P (sym ok) (rises_with id_of 1 f old w h)
rising_put (Err b) f old new ok err w h = let P : List Flight → Type 0 = λ l. IsRising l in subst P (sym err) h

below : (m n : ℕ) → n < m → nat_eq n m ≡ false
below m n h = grind (arith, nat_tests)

-- ---- the least free number

pub free_step : (id i : ℕ) (fs : List Flight) (f : Flight) → i < length fs → f ≡ get_or fs i f → f.id ≡ id → free_from id (drop i fs) ≡ free_from (id + 1) (drop (i + 1) fs)
free_step id i fs f w is same =
    ap (free_from id) (drop-cons fs i f w ∙ ap (λ x. x ∷ drop (suc i) fs) (sym is))
    ∙ cond-true (nat_eq f.id id) (free_from (id + 1) (drop (suc i) fs)) id (ap (λ n. nat_eq n id) same ∙ nat_same id)
    ∙ ap (λ n. free_from (id + 1) (drop n fs)) (sym (add-one i))

differ : (m n : ℕ) → m ≢ n → nat_eq m n ≡ false
differ m n h = grind (arith, nat_tests)

pub free_stop : (id i : ℕ) (fs : List Flight) (f : Flight) → i < length fs → f ≡ get_or fs i f → f.id ≢ id → free_from id (drop i fs) ≡ id
free_stop id i fs f w is other =
    ap (free_from id) (drop-cons fs i f w ∙ ap (λ x. x ∷ drop (suc i) fs) (sym is))
    ∙ cond-false (nat_eq f.id id) (free_from (id + 1) (drop (suc i) fs)) id (differ f.id id other)

-- what holds of the least free number from m on
record Free (m number : ℕ) (fs : List Flight) : Type 0 where
  from : m ≤ number
  free : flight_in number fs ≡ None
  least : (less : ℕ) → m ≤ less → less < number → IsSome (flight_in less fs)

some_is : {X : Type 0} (b : Bool) (x : X) (o : Option X) → b ≡ true → IsSome (cond b (Some x) o)
some_is true x o h = refl
some_is false x o h = cc

some_behind : {X : Type 0} (b : Bool) (x : X) (o : Option X) → b ≡ false → IsSome o → IsSome (cond b (Some x) o)
some_behind true x o h s = cc
some_behind false x o h s = s

found_less : (b : Bool) (m less number : ℕ) (f : Flight) (fs : List Flight) → nat_eq f.id less ≡ b → f.id ≡ m → m ≤ less → (m + 1 ≤ less → IsSome (flight_in less fs)) → IsSome (flight_in less (f ∷ fs))
found_less true m less number f fs e same w more = some_is (nat_eq f.id less) f (flight_in less fs) e
found_less false m less number f fs e same w more =
    some_behind (nat_eq f.id less) f (flight_in less fs) e (more (apart m less f.id e same w))
  where
    apart : (m less id : ℕ) → nat_eq id less ≡ false → id ≡ m → m ≤ less → m + 1 ≤ less
    apart m less id e same w = grind (arith, nat_tests)

free_if : (b : Bool) (m number : ℕ) (f : Flight) (fs : List Flight) → nat_eq f.id m ≡ b → m ≤ f.id → RisesFrom id_of (f.id + 1) fs → (f.id ≡ m → Free (m + 1) number fs) → Free m (cond b number m) (f ∷ fs)
free_if true m number f fs e w h more =
    let same : f.id ≡ m = eqb-true f.id m e in
    let r = more same in
    let k : m + 1 ≤ number = r.from in
    record {
      from = omega (arith, k);
      free = cond-false (nat_eq f.id number) (Some f) (flight_in number fs) (below number f.id (omega (arith, k, same))) ∙ r.free;
      least = λ less v u. found_less (nat_eq f.id less) m less number f fs refl same v (λ t. r.least less t u);
    }
free_if false m number f fs e w h more =
    record {
      from = omega arith;
      free = cond-false (nat_eq f.id m) (Some f) (flight_in m fs) e ∙ none_below id_of m (f.id + 1) fs h (omega (arith, w));
      least = λ less v u. absurd (omega (arith, v, u));
    }

rises_same : (m n : ℕ) (fs : List Flight) → m ≡ n → RisesFrom id_of m fs → RisesFrom id_of n fs
rises_same m n fs e h = subst (λ k. RisesFrom id_of k fs) e h

free_at : (m : ℕ) (fs : List Flight) → RisesFrom id_of m fs → Free m (free_from m fs) fs
free_at m [] h = record { from = omega arith; free = refl; least = λ less v u. absurd (omega (arith, v, u)) }
free_at m (f ∷ fs) h =
    free_if (nat_eq f.id m) m (free_from (m + 1) fs) f fs refl h.0 h.1
    (λ e. free_at (m + 1) fs (rises_same (f.id + 1) (m + 1) fs (ap (λ n. n + 1) e) h.1))

pub least_free : (fs : List Flight) → IsRising fs → IsLeastFree (free_from 1 fs) fs
least_free fs h = let r = free_at 1 fs h in record { from = r.from; free = r.free; least = r.least }

pub rising_is : (fs gs : List Flight) → gs ≡ fs → IsRising fs → IsRising gs
rising_is fs gs e h = let P : List Flight → Type 0 = λ l. IsRising l in subst P (sym e) h

pub least_is : (number : ℕ) (fs gs : List Flight) → number ≡ free_from 1 gs → fs ≡ gs → IsRising fs → IsLeastFree number gs
least_is number fs gs e is h =
    let P : ℕ → Type 0 = λ n. IsLeastFree n gs in subst P (sym e) (least_free gs (rising_is fs gs (sym is) h))
