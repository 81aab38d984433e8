-- Room for the abandonment of flights, as flights come and go.
use Rattle.std.proofs.Common.{◌≡◌, ℕ, ◌+◌, ◌≤◌, Bool, true, false, cond, List, [], ◌∷◌, length, map, Some, Result, Ok, Err, IsOk, OnOk, ap, nat_lt, inl, inr, arith, refl}
use Rattle.std.proofs.lemmas.Bool.{cases_Bool}
use Rattle.std.proofs.lemmas.List.Sums.{sum_by-cons}
use Rattle.lang_programs.specs.Numbered.{Numbered}
use Rattle.flights.specs.Corrections.{corrected_flight, has_program}
use Rattle.flights.specs.Numbers.{has_flight, flight_in, without_flight, put_flight, with_flight}
use Rattle.flights.specs.declared.flight.Flight.{Flight}
use Rattle.service_parts.specs.Rooms.{aloft}

aloft_cons : (f : Flight) (fs : List Flight) → aloft (f ∷ fs) ≡ length f.calls + aloft fs
aloft_cons f fs = sum_by-cons (λ (f : Flight). length f.calls) f fs

pub aloft_without : (id : ℕ) (fs : List Flight) → aloft (without_flight id fs) ≤ aloft fs
aloft_without id [] = omega arith
aloft_without id (f ∷ fs) =
    let rest = aloft_without id fs in
    let all = aloft_cons f fs in
    elim (cases_Bool (has_flight id f)) [
      | inl is ↦ rw is (omega (arith, rest, all))
      | inr other ↦ rw other (let left = aloft_cons f (without_flight id fs) in omega (arith, rest, all, left))
    ]

-- what a flight that is gone leaves room for
pub aloft_removed : (id : ℕ) (f : Flight) (fs : List Flight) → flight_in id fs ≡ Some f → length f.calls + aloft (without_flight id fs) ≤ aloft fs
aloft_removed id f [] found = cc
aloft_removed id f (g ∷ gs) found =
    let all = aloft_cons g gs in
    elim (cases_Bool (has_flight id g)) [
      | inl is ↦ (let here : Some g ≡ Some f = rw is at found in
          let same : g ≡ f = cc in
          let calls : length g.calls ≡ length f.calls = ap (λ (x : Flight). length x.calls) same in
          let rest = aloft_without id gs in
          rw is (omega (arith, rest, all, calls)))
      | inr other ↦ (let rest = aloft_removed id f gs (rw other at found) in
          let left = aloft_cons g (without_flight id gs) in
          rw other (omega (arith, rest, all, left)))
    ]

aloft_put : (f : Flight) (gs : List Flight) → aloft (put_flight f gs) ≡ length f.calls + aloft gs
aloft_put f [] = aloft_cons f []
aloft_put f (g ∷ gs) = elim (cases_Bool (nat_lt f.id g.id)) [
  | inl is ↦ rw is (aloft_cons f (g ∷ gs))
  | inr other ↦ (let rest = aloft_put f gs in
      let all = aloft_cons g gs in
      let put = aloft_cons g (put_flight f gs) in
      rw other (omega (arith, rest, all, put)))
]

pub aloft_with : (f : Flight) (fs : List Flight) → aloft (with_flight f fs) ≤ length f.calls + aloft fs
aloft_with f fs =
    let put = aloft_put f (without_flight f.id fs) in
    let less = aloft_without f.id fs in
    omega (arith, put, less)

calls_corrected : (m : Numbered) (b : Bool) (f : Flight) → (cond b (record f { program = m }) f).calls ≡ f.calls
calls_corrected m true f = refl
calls_corrected m false f = refl

-- flights under another program have as many calls
pub aloft_corrected : (k : ℕ) (m : Numbered) (fs : List Flight) → aloft (map (corrected_flight k m) fs) ≡ aloft fs
aloft_corrected k m [] = refl
aloft_corrected k m (f ∷ fs) =
    let first = ap length (calls_corrected m (has_program k f) f) in
    let rest = aloft_corrected k m fs in
    let now = aloft_cons (corrected_flight k m f) (map (corrected_flight k m) fs) in
    let all = aloft_cons f fs in
    omega (arith, first, rest, now, all)

-- ---- an answer that isn't a refusal

pub on_ok : {A E : Type 0} (r : Result A E) (P : Type 0) → IsOk r → OnOk r P → P
on_ok (Ok a) P is h = h
on_ok (Err e) P is h = cc
