-- What was counted on the way is how many there were, as far as a number of 64 bits counts.
use Rattle.std.proofs.Common.{◌≡◌, ℕ, ◌+◌, ◌-◌, ◌^◌, ◌≤◌, Bool, true, false, ◌||◌, List, [], ◌∷◌, if◌then◌else◌, min, inl, inr, refl, ap, sym, ◌∙◌, arith}
use Rattle.std.proofs.lemmas.Bool.{cases_lt}
use Rattle.std.proofs.Math.Nat.{min-eq_left, min-eq_right}
use Rattle.call_registers.specs.Changes.{raised}
use Rattle.world_events.specs.Events.{after_event, answer_to}
use Rattle.world_events.specs.Worlds.{World}
use Rattle.world_events.specs.declared.event.Event.{Event}
use Rattle.world_events.specs.declared.happened.What.{What}
use Rattle.world_settle.specs.Doing.{risen, worked}
use Rattle.world_settle.specs.Settles.{any_came, came, counted, has_work, how_many, is_work}

-- ---- counts

-- the greatest number of 64 bits
abbrev most : ℕ
most = 2 ^ 64 - 1

pub counted_raised : (n : ℕ) → raised (counted n) ≡ counted (n + 1)
counted_raised n = elim (cases_lt n most) [
  | inl below ↦ (let e : min n most ≡ n = min-eq_left (let h : n ≤ most = omega (arith, below) in h) in ap raised e)
  | inr above ↦ (let e : min n most ≡ most = min-eq_right above in
      let f : min (most + 1) most ≡ most = min-eq_right (let h : most ≤ most + 1 = omega arith in h) in
      let g : min (n + 1) most ≡ most = min-eq_right (let h : most ≤ n + 1 = omega (arith, above) in h) in
      ap raised e ∙ f ∙ sym g)
]

-- a count that stood at this and then rose
risen_from : (passes : What → Bool) (n : ℕ) (w : World) (events : List Event) → risen passes (counted n) w events ≡ counted (n + how_many passes w events)
risen_from passes n w [] = (let e : n ≡ n + 0 = omega arith in ap counted e)
risen_from passes n w (e ∷ events) =
    by_came (came passes (answer_to w e)) (how_many passes (after_event w e) events) (λ k. risen passes k (after_event w e) events)
    (λ k. risen_from passes k (after_event w e) events)
  where
    by_came : (b : Bool) (more : ℕ) (rises : ℕ → ℕ) → ((k : ℕ) → rises (counted k) ≡ counted (k + more))
        → rises (if b then raised (counted n) else counted n) ≡ counted (n + ((if b then 1 else 0) + more))
    by_came true more rises from = (let sum : n + 1 + more ≡ n + (1 + more) = omega arith in ap rises (counted_raised n) ∙ from (n + 1) ∙ ap counted sum)
    by_came false more rises from = (let sum : n + more ≡ n + (0 + more) = omega arith in from n ∙ ap counted sum)

pub risen_is : (passes : What → Bool) (w : World) (events : List Event) → risen passes 0 w events ≡ counted (how_many passes w events)
risen_is passes w events = (let e : 0 + how_many passes w events ≡ how_many passes w events = omega arith in risen_from passes 0 w events ∙ ap counted e)

-- ---- work

or_same : (a b c : Bool) → (a || (b || c)) ≡ (b || a || c)
or_same true true c = refl
or_same true false c = refl
or_same false true c = refl
or_same false false c = refl

worked_from : (before : Bool) (w : World) (events : List Event) → worked before w events ≡ (before || any_came is_work w events)
worked_from true w [] = refl
worked_from false w [] = refl
worked_from before w (e ∷ events) =
    worked_from (came is_work (answer_to w e) || before) (after_event w e) events ∙ sym (or_same before (came is_work (answer_to w e)) (any_came is_work (after_event w e) events))

pub worked_is : (w : World) (events : List Event) → worked false w events ≡ has_work w events
worked_is w events = worked_from false w events
