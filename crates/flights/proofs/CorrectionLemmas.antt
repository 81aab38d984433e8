-- Flights under another program stand in the order of their numbers still.
use Rattle.std.proofs.Common.{◌≡◌, ◌∙◌, sym, ap, refl, subst, ℕ, zero, suc, ◌+◌, ◌<◌, ◌≤◌, Bool, true, false, cond, not, List, [], ◌∷◌, length, get_or, map, take, nat_eq, nat_lt, arith, add-one}
use Rattle.std.proofs.lemmas.Bool.{le-ltb}
use Rattle.std.proofs.lemmas.Bool.Decides.{nat_tests}
use Rattle.lang_lists.specs.Numbers.{RisesFrom}
use Rattle.lang_lists.proofs.NumberLemmas.{at_least}
use Rattle.handler_run.specs.HandedOn.{Numbered}
use Rattle.flights.specs.Corrections.{corrected_flight, has_program}
use Rattle.flights.specs.Numbers.{put_flight, with_flight, without_flight, IsRising}
use Rattle.flights.specs.declared.flight.Flight.{Flight}

abbrev id_of : Flight → ℕ
id_of f = f.id

id_by : (p : Numbered) (f : Flight) (b : Bool) → (cond b (record f { program = p }) f).id ≡ f.id
id_by p f true = refl
id_by p f false = refl

other : (m n : ℕ) → n < m → nat_eq n m ≡ false
other m n h = grind (arith, nat_tests)

-- a flight of a greater number goes behind
put_behind : (f g : Flight) (gs : List Flight) → g.id < f.id → with_flight f (g ∷ gs) ≡ g ∷ with_flight f gs
put_behind f g gs lt =
    let e : nat_eq g.id f.id ≡ false = other f.id g.id lt in
    let l : nat_lt f.id g.id ≡ false = le-ltb f.id g.id (omega arith) in
    let rest : List Flight = without_flight f.id gs in
    ap (λ b. put_flight f (cond (not b) (g ∷ rest) rest)) e ∙ ap (λ b. cond b (f ∷ g ∷ rest) (g ∷ put_flight f rest)) l

module _ (c : Flight → Flight) (same : (f : Flight) → (c f).id ≡ f.id) where
  last_suc : (m i : ℕ) (fs : List Flight) (f : Flight) → RisesFrom id_of m fs → i < length fs → f ≡ get_or fs i f → with_flight (c f) (map c (take i fs)) ≡ map c (take (suc i) fs)
  last_suc m i [] f rises lt is = absurd (omega arith)
  last_suc m zero (x ∷ xs) f rises lt is = ap (λ g. c g ∷ []) is
  last_suc m (suc i) (x ∷ xs) f rises lt is =
      let within : i < length xs = omega arith in
      let least : x.id + 1 ≤ (get_or xs i f).id = at_least id_of (x.id + 1) i xs f rises.1 within in
      let own : f.id ≡ (get_or xs i f).id = ap id_of is in
      let here : (c x).id ≡ x.id = same x in
      let there : (c f).id ≡ f.id = same f in
      put_behind (c f) (c x) (map c (take i xs)) (omega arith) ∙ ap (λ l. c x ∷ l) (last_suc (x.id + 1) i xs f rises.1 within is)

  rising_map : (m : ℕ) (fs : List Flight) → RisesFrom id_of m fs → RisesFrom id_of m (map c fs)
  rising_map m [] rises = tt
  rising_map m (x ∷ xs) rises =
      let P : ℕ → Type 0 = λ n. (m ≤ n) × RisesFrom id_of (n + 1) (map c xs) in
      subst P (sym (same x)) (rises.0, rising_map (x.id + 1) xs rises.1)

module _ (number : ℕ) (p : Numbered) where
  id_left : (f : Flight) → (corrected_flight number p f).id ≡ f.id
  id_left f = id_by p f (has_program number f)

  -- one flight more, put last
  pub corrected_more : (i : ℕ) (fs old new : List Flight) (f : Flight) → IsRising fs → i < length fs → f ≡ get_or fs i f → old ≡ map (corrected_flight number p) (take i fs)
      → new ≡ with_flight (corrected_flight number p f) old → new ≡ map (corrected_flight number p) (take (i + 1) fs)
  corrected_more i fs old new f rises lt is before put =
      rw add-one (put ∙ ap (with_flight (corrected_flight number p f)) before ∙ last_suc (corrected_flight number p) id_left 1 i fs f rises lt is)

  pub rising_corrected : (fs gs : List Flight) → gs ≡ map (corrected_flight number p) fs → IsRising fs → IsRising gs
  rising_corrected fs gs is rises =
      let P : List Flight → Type 0 = λ l. IsRising l in subst P (sym is) (rising_map (corrected_flight number p) id_left 1 fs rises)
